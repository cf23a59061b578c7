-- The code is ours: what the contract of each public call allows is what `ours` answers, in number, values, record and every lent byte.
use mathlib.Core.Path.{◌≡◌, refl, ap, ◌∙◌}
use Prim.Native.Nat.{ℕ}
use mathlib.Core.List.{List}
use contract.Lifetimes
use denote.Triple.Clauses
use borrow.Fn.World
use borrow.Fn.Kinds as K
use Rattle.basis.specs.Rows.{Row, first_of}
use Rattle.basis.specs.Told.{Told}
use Rattle.packet.specs.Write.{Writes, told_of as written_told, written_of}
use Rattle.packet.proofs.Numbers.{rows_told}
use Rattle.std.specs.Prelude.{Result}
use Rattle.refusal.specs.Refusal.{AllNamed}
use Rattle.refusal.specs.declared.Refusal.{Refusal}
use Rattle.reader.specs.Read.{told_of as read_told}
use Rattle.reply.specs.Reply.{told_of as status_told}
use Rattle.judge.specs.Verdict.{told_of as verdict_told}
use Rattle.reckon.specs.Forecast.{told_of as forecast_told}
use Rattle.promises.specs.Unit.{Wrote, ours, left_by, heard_in, stepped_in, cleared_in}
use Rattle.reader.specs.contracts.read_packet
use Rattle.reader.proofs.read_packet.Kinds as read_packet_kinds
use Rattle.reader.proofs.read_packet.Reads as read_packet_reads
use Rattle.reply.specs.contracts.read_reply
use Rattle.reply.proofs.read_reply.Kinds as read_reply_kinds
use Rattle.reply.proofs.read_reply.Reads as read_reply_reads
use Rattle.packet.specs.contracts.write_query
use Rattle.packet.proofs.write_query.Kinds as write_query_kinds
use Rattle.packet.proofs.write_query.Reads as write_query_reads
use Rattle.packet.specs.contracts.write_reset
use Rattle.packet.proofs.write_reset.Kinds as write_reset_kinds
use Rattle.packet.proofs.write_reset.Reads as write_reset_reads
use Rattle.packet.specs.contracts.write_packet
use Rattle.packet.proofs.write_packet.Kinds as write_packet_kinds
use Rattle.packet.proofs.write_packet.Reads as write_packet_reads
use Rattle.transmission.specs.contracts.write_transmission
use Rattle.transmission.proofs.write_transmission.Kinds as write_transmission_kinds
use Rattle.transmission.proofs.write_transmission.Reads as write_transmission_reads
use Rattle.reply.specs.contracts.write_reply
use Rattle.reply.proofs.write_reply.Kinds as write_reply_kinds
use Rattle.reply.proofs.write_reply.Reads as write_reply_reads
use Rattle.judge.specs.contracts.judge
use Rattle.judge.proofs.judge.Kinds as judge_kinds
use Rattle.judge.proofs.judge.Reads as judge_reads
use Rattle.reckon.specs.contracts.forecast
use Rattle.reckon.proofs.forecast.Kinds as forecast_kinds
use Rattle.reckon.proofs.forecast.Reads as forecast_reads
use Rattle.sign.specs.contracts.Sign.power_on
use Rattle.sign.proofs.Sign.power_on.Kinds as power_on_kinds
use Rattle.sign.proofs.Sign.power_on.Reads as power_on_reads
use Rattle.sign.specs.contracts.Sign.receive
use Rattle.sign.proofs.Sign.receive.Kinds as receive_kinds
use Rattle.sign.proofs.Sign.receive.Reads as receive_reads
use Rattle.sign.specs.contracts.Sign.step
use Rattle.sign.proofs.Sign.step.Kinds as step_kinds
use Rattle.sign.proofs.Sign.step.Reads as step_reads
use Rattle.sign.specs.contracts.Sign.reset
use Rattle.sign.proofs.Sign.reset.Kinds as reset_kinds
use Rattle.sign.proofs.Sign.reset.Reads as reset_reads
use Rattle.sign.specs.contracts.Sign.reply
use Rattle.sign.proofs.Sign.reply.Kinds as reply_kinds
use Rattle.sign.proofs.Sign.reply.Reads as reply_reads
use Rattle.sign.specs.contracts.Sign.copy_body
use Rattle.sign.proofs.Sign.copy_body.Kinds as copy_body_kinds
use Rattle.sign.proofs.Sign.copy_body.Reads as copy_body_reads
use Rattle.repeater.specs.contracts.repeat
use Rattle.repeater.proofs.repeat.Kinds as repeat_kinds
use Rattle.repeater.proofs.repeat.Reads as repeat_reads

-- what a writer of the code leaves, as `ours` says it: its answer in the rules' numbers, and the buffer after the call
abbrev pub wrote_in : Result ℕ Refusal → (buffer : List ℕ) → Wrote
wrote_in r buffer = record { told = written_told r; buffer = buffer }

-- a writer that is held to these rows and these bytes leaves what `left_by` says of them, where each number of the rows has a name
pub is_left : (rows : List Row) (bytes out : List ℕ) (r : Result ℕ Refusal) (after : List ℕ) → AllNamed rows → Writes rows bytes out r after
    → wrote_in r after ≡ left_by rows bytes out
is_left rows bytes out r after named h =
    ap (λ (w : Result ℕ Refusal). wrote_in w after) h.answered
    ∙ ap (λ (t : Told). record { told = t; buffer = after }) (rows_told rows bytes named)
    ∙ ap (λ (b : List ℕ). record { told = written_of (first_of rows) bytes; buffer = b }) h.left

-- a packet is read as `ours` reads it
pub is_read : (κs : Lifetimes.Lfts 1) (a : World.ArgsD read_packet.signature κs) (r : World.ResD read_packet.signature κs)
    (s : Clauses.AtExit (K.ended_of 1 read_packet_kinds.ps read_packet_kinds.r) κs) → read_packet_reads.Post κs a r s
    → read_told r ≡ ours.read a.0 a.1.0.now
is_read κs a r s h = ap read_told h

-- a reply is heard as `ours` hears it
pub is_hear : (κs : Lifetimes.Lfts 1) (a : World.ArgsD read_reply.signature κs) (r : World.ResD read_reply.signature κs)
    (s : Clauses.AtExit (K.ended_of 1 read_reply_kinds.ps read_reply_kinds.r) κs) → read_reply_reads.Post κs a r s
    → status_told r ≡ ours.hear a.0 a.1.0.now
is_hear κs a r s h = ap status_told h

-- a query is written as `ours` writes it
pub is_query : (κs : Lifetimes.Lfts 1) (a : World.ArgsD write_query.signature κs) (r : World.ResD write_query.signature κs)
    (s : Clauses.AtExit (K.ended_of 1 write_query_kinds.ps write_query_kinds.r) κs) → write_query_reads.Post κs a r s
    → wrote_in r s.1.0.now ≡ ours.query a.0 a.1.0.now
is_query κs a r s h = is_left _ _ _ _ _ (refl, (refl, tt)) h

-- a reset is written as `ours` writes it
pub is_reset : (κs : Lifetimes.Lfts 1) (a : World.ArgsD write_reset.signature κs) (r : World.ResD write_reset.signature κs)
    (s : Clauses.AtExit (K.ended_of 1 write_reset_kinds.ps write_reset_kinds.r) κs) → write_reset_reads.Post κs a r s
    → wrote_in r s.1.0.now ≡ ours.reset a.0 a.1.0.now
is_reset κs a r s h = is_left _ _ _ _ _ (refl, (refl, tt)) h

-- one packet of a body is written as `ours` writes it
pub is_write : (κs : Lifetimes.Lfts 2) (a : World.ArgsD write_packet.signature κs) (r : World.ResD write_packet.signature κs)
    (s : Clauses.AtExit (K.ended_of 2 write_packet_kinds.ps write_packet_kinds.r) κs) → write_packet_reads.Post κs a r s
    → wrote_in r s.1.1.1.1.0.now ≡ ours.write a.0 a.1.0 a.1.1.0.now a.1.1.1.0 a.1.1.1.1.0.now
is_write κs a r s h = is_left _ _ _ _ _ (refl, (refl, (refl, (refl, (refl, tt))))) h

-- a whole transmission is written as `ours` writes it
pub is_transmit : (κs : Lifetimes.Lfts 2) (a : World.ArgsD write_transmission.signature κs) (r : World.ResD write_transmission.signature κs)
    (s : Clauses.AtExit (K.ended_of 2 write_transmission_kinds.ps write_transmission_kinds.r) κs) → write_transmission_reads.Post κs a r s
    → wrote_in r s.1.1.1.0.now ≡ ours.transmit a.0 a.1.0 a.1.1.0.now a.1.1.1.0.now
is_transmit κs a r s h = is_left _ _ _ _ _ (refl, (refl, (refl, (refl, tt)))) h

-- a reply of given fields is written as `ours` writes it
pub is_answer : (κs : Lifetimes.Lfts 1) (a : World.ArgsD write_reply.signature κs) (r : World.ResD write_reply.signature κs)
    (s : Clauses.AtExit (K.ended_of 1 write_reply_kinds.ps write_reply_kinds.r) κs) → write_reply_reads.Post κs a r s
    → wrote_in r s.1.1.0.now ≡ ours.answer a.0 a.1.0.last a.1.0.busy a.1.0.sink a.1.1.0.now
is_answer κs a r s h = is_left _ _ _ _ _ (refl, (refl, (refl, tt))) h

-- a body is judged as `ours` judges it
pub is_judge : (κs : Lifetimes.Lfts 1) (a : World.ArgsD judge.signature κs) (r : World.ResD judge.signature κs)
    (s : Clauses.AtExit (K.ended_of 1 judge_kinds.ps judge_kinds.r) κs) → judge_reads.Post κs a r s
    → verdict_told r ≡ ours.judge a.0.now
is_judge κs a r s h = ap verdict_told h

-- a body is forecast as `ours` forecasts it
pub is_forecast : (κs : Lifetimes.Lfts 1) (a : World.ArgsD forecast.signature κs) (r : World.ResD forecast.signature κs)
    (s : Clauses.AtExit (K.ended_of 1 forecast_kinds.ps forecast_kinds.r) κs) → forecast_reads.Post κs a r s
    → forecast_told r ≡ ours.forecast a.0.now a.1.0 a.1.1.0
is_forecast κs a r s h = ap forecast_told h

-- a sign that was just switched on is the one of `ours`
pub is_power : (κs : Lifetimes.Lfts 0) (a : World.ArgsD power_on.signature κs) (r : World.ResD power_on.signature κs)
    (s : Clauses.AtExit (K.ended_of 0 power_on_kinds.ps power_on_kinds.r) κs) → power_on_reads.Post κs a r s
    → r ≡ ours.power
is_power κs a r s h = h

-- bytes off the line make of a record what they make of it in `ours`, with the same answer and the same body
pub is_receive : (κs : Lifetimes.Lfts 1) (a : World.ArgsD receive.signature κs) (r : World.ResD receive.signature κs)
    (s : Clauses.AtExit (K.ended_of 1 receive_kinds.ps receive_kinds.r) κs) → receive_reads.Post κs a r s
    → heard_in r ≡ ours.receive a.0 a.1.0 a.1.1.0.now
is_receive κs a r s h = ap heard_in h

-- a step makes of a record what it makes of it in `ours`, with the same answer
pub is_step : (κs : Lifetimes.Lfts 0) (a : World.ArgsD step.signature κs) (r : World.ResD step.signature κs)
    (s : Clauses.AtExit (K.ended_of 0 step_kinds.ps step_kinds.r) κs) → step_reads.Post κs a r s
    → stepped_in r ≡ ours.step a.0
is_step κs a r s h = ap stepped_in h

-- a reset makes of a record what it makes of it in `ours`, with the same answer
pub is_clear : (κs : Lifetimes.Lfts 0) (a : World.ArgsD reset.signature κs) (r : World.ResD reset.signature κs)
    (s : Clauses.AtExit (K.ended_of 0 reset_kinds.ps reset_kinds.r) κs) → reset_reads.Post κs a r s
    → cleared_in r ≡ ours.clear a.0
is_clear κs a r s h = ap cleared_in h

-- a sign's reply to a query is written as `ours` writes it
pub is_reply_lem : (κs : Lifetimes.Lfts 1) (a : World.ArgsD reply.signature κs) (r : World.ResD reply.signature κs)
    (s : Clauses.AtExit (K.ended_of 1 reply_kinds.ps reply_kinds.r) κs) → reply_reads.Post κs a r s
    → wrote_in r s.1.1.1.0.now ≡ ours.reply a.0 a.1.0 a.1.1.0 a.1.1.1.0.now
is_reply_lem κs a r s h = is_left _ _ _ _ _ (refl, (refl, (refl, tt))) h

-- the running body is copied as `ours` copies it
pub is_copy : (κs : Lifetimes.Lfts 1) (a : World.ArgsD copy_body.signature κs) (r : World.ResD copy_body.signature κs)
    (s : Clauses.AtExit (K.ended_of 1 copy_body_kinds.ps copy_body_kinds.r) κs) → copy_body_reads.Post κs a r s
    → wrote_in r s.1.0.now ≡ ours.copy a.0 a.1.0.now
is_copy κs a r s h = is_left _ _ _ _ _ (refl, (refl, tt)) h

-- the bytes that the repeater gives back are those of `ours`
pub is_repeat : (κs : Lifetimes.Lfts 1) (a : World.ArgsD repeat.signature κs) (r : World.ResD repeat.signature κs)
    (s : Clauses.AtExit (K.ended_of 1 repeat_kinds.ps repeat_kinds.r) κs) → repeat_reads.Post κs a r s
    → r.now ≡ ours.repeat a.0.now a.1.0 a.1.1.0 a.1.1.1.0.now
is_repeat κs a r s h = h.0
