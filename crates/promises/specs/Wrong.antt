-- Wrong units, those of P3 and P4 among them, each refuted in proofs/Wrong: what the promises shut out.
use Rattle.std.specs.Prelude.{ℕ, suc, ◌-◌, Bool, false, List, [], ◌∷◌, ◌++◌, eqb, ltb, length, get_or, take, drop, replicate, Result, Ok, Err, None}
use Rattle.basis.specs.Choice.{when, ◌and◌, ◌or◌}
use Rattle.basis.specs.Told.{Told, yes, no}
use Rattle.refusal.specs.declared.Refusal.{Refusal}
use Rattle.packet.specs.Mid.{is_forbidden, mid_row}
use Rattle.packet.specs.Wire.{reply_of}
use Rattle.packet.specs.Write.{short_by}
use Rattle.reader.specs.Read.{read_of, told_of as read_told}
use Rattle.reader.specs.declared.read.Packet.{Packet}
use Rattle.reader.specs.declared.read.Packet.TheVariants.{Query, Reset, Normal}
use Rattle.reply.specs.Reply.{told_of as status_told, status}
use Rattle.perform.specs.declared.settings.Settings.{Settings}
use Rattle.perform.specs.declared.price.Performed.{Performed}
use Rattle.judge.specs.Verdict.{Verdict, judge_of, told_of as verdict_told}
use Rattle.judge.specs.declared.Ending.TheVariants.{Finite, Endless}
use Rattle.refusal.specs.declared.Fault.{Fault}
use Rattle.measure.specs.Width.{measured_of, widths_of}
use Rattle.measure.specs.declared.width.Widths.{Widths}
use Rattle.loops.specs.Token.{Part, act, rep, close, forever, again, Tok, good, bad, get, tokens}
use Rattle.course.specs.Steps.{says_of, sets_of, said_at}
use Rattle.course.specs.Tree.{Block, stop, one, loop, tree_of, tree_in}
use Rattle.course.specs.Price.{scans, millis, leaves_of, price_of}
use Rattle.completed.specs.Completed.{ids_of, none_of as no_completed, last_of, is_among, has_of}
use Rattle.completed.specs.declared.Completed.{Completed}
use Rattle.collect.specs.Slots.{held_of, same_of}
use Rattle.room.specs.Room.{room_of}
use Rattle.totals.specs.Totals.{totals_of}
use Rattle.reckon.specs.Forecast.{settings_at, forecast_of, told_of as forecast_told}
use Rattle.reckon.specs.declared.reckon.Foretold.{Foretold}
use Rattle.reckon.specs.declared.reckon.Foretold.TheVariants.{Ends, Endless as Never}
use Rattle.machine.specs.Step.{ready_of, started_of, say_of, told_of as answer_told}
use Rattle.hear.specs.Hear.{told_of as outcome_told}
use Rattle.hear.specs.Join.{begins_of}
use Rattle.hear.specs.declared.Outcome.TheVariants.{Reset as ResetHeard, Repeat}
use Rattle.sign.specs.Reset.{reset_of}
use Rattle.sign.specs.Sound.{collected_of}
use Rattle.sign.specs.Tell.{running_body, told_rows}
use Rattle.sign.specs.declared.Sign.{Sign}
use Rattle.promises.specs.Unit.{Wrote, Next, Heard, Calls, ours, left_by}
use Rattle.promises.specs.Record.{stays}
use Rattle.promises.specs.Guard.{unguarded}
use Rattle.promises.specs.Line.{told_of_all}

-- ours but for these calls
abbrev pub made : {R : Type 0} → (read hear : ℕ → List ℕ → Told) → (write : ℕ → ℕ → List ℕ → ℕ → List ℕ → Wrote) → (judge : List ℕ → Told)
    → (repeat : List ℕ → ℕ → ℕ → List ℕ → List ℕ)
    → (forecast : List ℕ → ℕ → ℕ → Told)
    → (holds : R → Sign)
    → (power : R)
    → (receive : R → ℕ → List ℕ → Heard R)
    → (step clear : R → Next R)
    → (reply : R → ℕ → Bool → List ℕ → Wrote)
    → (copy : R → List ℕ → Wrote)
    → Calls R
made read hear write judge repeat forecast holds power receive step clear reply copy =
    record {
      holds = holds;
      read = read;
      hear = hear;
      query = ours.query;
      reset = ours.reset;
      write = write;
      transmit = ours.transmit;
      answer = ours.answer;
      judge = judge;
      forecast = forecast;
      power = power;
      receive = receive;
      step = step;
      clear = clear;
      reply = reply;
      copy = copy;
      repeat = repeat;
    }

-- but for the two readers and the writer of packets
abbrev pub ends : (read hear : ℕ → List ℕ → Told) → (write : ℕ → ℕ → List ℕ → ℕ → List ℕ → Wrote) → Calls Sign
ends read hear write =
    made read hear write ours.judge ours.repeat ours.forecast ours.holds ours.power ours.receive ours.step ours.clear ours.reply
    ours.copy

-- but for judging and the repeater
abbrev pub plans : (judge : List ℕ → Told) → (repeat : List ℕ → ℕ → ℕ → List ℕ → List ℕ) → Calls Sign
plans judge repeat =
    made ours.read ours.hear ours.write judge repeat ours.forecast ours.holds ours.power ours.receive ours.step ours.clear
    ours.reply
    ours.copy

-- but for the forecast and the calls on a record, which may be another
abbrev pub works : {R : Type 0} → (forecast : List ℕ → ℕ → ℕ → Told) → (holds : R → Sign) → (power : R) → (receive : R → ℕ → List ℕ → Heard R)
    → (step clear : R → Next R)
    → (reply : R → ℕ → Bool → List ℕ → Wrote)
    → (copy : R → List ℕ → Wrote)
    → Calls R
works = made ours.read ours.hear ours.write ours.judge ours.repeat

-- but for one call
abbrev pub reading : (ℕ → List ℕ → Told) → Calls Sign
reading f = ends f ours.hear ours.write

abbrev pub hearing : (ℕ → List ℕ → Told) → Calls Sign
hearing f = ends ours.read f ours.write

abbrev pub writing : (ℕ → ℕ → List ℕ → ℕ → List ℕ → Wrote) → Calls Sign
writing f = ends ours.read ours.hear f

abbrev pub judging : (List ℕ → Told) → Calls Sign
judging f = plans f ours.repeat

abbrev pub repeating : (List ℕ → ℕ → ℕ → List ℕ → List ℕ) → Calls Sign
repeating f = plans ours.judge f

abbrev pub foretelling : (List ℕ → ℕ → ℕ → Result Foretold Fault) → Calls Sign
foretelling f =
    works (λ b pace each. forecast_told (f b pace each)) ours.holds ours.power ours.receive ours.step ours.clear ours.reply ours.copy

abbrev pub receiving : (Sign → ℕ → List ℕ → Heard Sign) → Calls Sign
receiving f = works ours.forecast ours.holds ours.power f ours.step ours.clear ours.reply ours.copy

abbrev pub stepping : (Sign → Next Sign) → Calls Sign
stepping f = works ours.forecast ours.holds ours.power ours.receive f ours.clear ours.reply ours.copy

abbrev pub replying : (Sign → ℕ → Bool → List ℕ → Wrote) → Calls Sign
replying f = works ours.forecast ours.holds ours.power ours.receive ours.step ours.clear f ours.copy

abbrev pub copying : (Sign → List ℕ → Wrote) → Calls Sign
copying f = works ours.forecast ours.holds ours.power ours.receive ours.step ours.clear ours.reply f

-- a reader that refuses everything
abbrev pub refusing : Calls Sign
refusing = reading (λ mid b. no 1)

-- a reader that takes what is damaged for a reset, and a query for a reset and a reset for a query
abbrev pub eagerly : List ℕ → Result Packet Refusal → Result Packet Refusal
eagerly b (Ok Query) = Ok Reset
eagerly b (Ok Reset) = Ok Query
eagerly b (Ok (Normal id total position len)) = Ok (Normal id total position len)
eagerly b (Err e) = when (ltb 8 (length b)) (Ok Reset) (Err e)

abbrev pub eager : Calls Sign
eager = reading (λ mid b. read_told (eagerly b (read_of mid b)))

-- a reader that takes fewer than 7 bytes for a reset
abbrev pub noisy : Calls Sign
noisy = reading (λ mid b. when (ltb (length b) 7) (read_told (Ok Reset)) (ours.read mid b))

-- a reader that looks for the forbidden MIDs in the packet, and not at the sign's own
abbrev pub misled : Calls Sign
misled = reading (λ mid b. when (is_forbidden (get_or b 0 0)) (no 19) (unguarded.read mid b))

-- and a sign that does so
abbrev pub misset : Calls Sign
misset = receiving (λ s mid b. when (is_forbidden (get_or b 0 0)) (stays s (no 19)) (unguarded.receive s mid b))

-- a sign that refuses 7Dh too
abbrev pub wary : Calls Sign
wary = receiving (λ s mid b. when (eqb mid 0x7D) (stays s (no 19)) (ours.receive s mid b))

-- a sign that looks at its MID before its record
abbrev pub hurried : Calls Sign
hurried = receiving (λ s mid b. when (is_forbidden mid) (stays s (no 19)) (ours.receive s mid b))

-- a writer that writes for a forbidden MID, and then refuses
abbrev pub sorry : Calls Sign
sorry =
    writing
    (λ mid id body position out.
    when (is_forbidden mid) (record { told = no 19; buffer = (unguarded.write mid id body position out).buffer }) (ours.write mid id body position out))

-- a reader of replies that takes one with last ID 40h, which no sign has, for a reply
abbrev pub rumour : List ℕ
rumour = 0x81 ∷ 0x7F ∷ 0x08 ∷ 0x40 ∷ 0x52 ∷ 0x46 ∷ 0x00 ∷ 0x20 ∷ []

abbrev pub hearsay : Calls Sign
hearsay = hearing (λ mid b. when (same_of b rumour) (status_told (status 0x40 false false)) (ours.hear mid b))

-- a writer that writes nothing
abbrev pub idle : Calls Sign
idle = writing (λ mid id body position out. record { told = yes (0 ∷ []); buffer = out })

-- a writer that refuses every buffer under 21 bytes and fills it
abbrev pub scribbling : Calls Sign
scribbling =
    writing
    (λ mid id body position out.
    when (ltb (length out) 21) (record { told = no 34; buffer = replicate (length out) 0xFF }) (ours.write mid id body position out))

-- a judge that accepts every body
abbrev pub trusting : Calls Sign
trusting = judging (λ b. verdict_told (Ok Finite))

-- a forecast whose scans are made up
abbrev pub made_up : Result Foretold Fault → Result Foretold Fault
made_up (Ok (Ends t pace each)) = Ok (Ends (totals_of t.steps.0 (suc t.scans.0) t.millis.0) pace each)
made_up (Ok Never) = Ok Never
made_up (Err w) = Err w

abbrev pub inventing : Calls Sign
inventing = foretelling (λ b pace each. made_up (forecast_of b pace each))

-- a forecast of nothing for what is refused
abbrev pub nothing_for : Result Foretold Fault → Result Foretold Fault
nothing_for (Ok f) = Ok f
nothing_for (Err w) = Ok (Ends (totals_of 0 0 0) 4 1)

abbrev pub lenient : Calls Sign
lenient = foretelling (λ b pace each. nothing_for (forecast_of b pace each))

-- a sign that is Ready at once, beside a forecast of nothing
abbrev pub readied : Heard Sign → Heard Sign
readied h =
    record {
      told = h.told;
      next = record { completed = h.next.completed; slots = h.next.slots; room = replicate 84 0; run = ready_of h.next.run.settings };
      body = h.body;
    }

abbrev pub at_once : Calls Sign
at_once =
    works (λ b pace each. forecast_told (Ok (Ends (totals_of 0 0 0) pace each))) ours.holds ours.power (λ s mid b. readied (ours.receive s mid b)) ours.step
    ours.clear
    ours.reply
    ours.copy

-- a joiner that releases one fixed body
abbrev pub fixed : Calls Sign
fixed = receiving (λ s mid b. record { told = (ours.receive s mid b).told; next = (ours.receive s mid b).next; body = 0 ∷ [] })

-- a sign that starts over whatever comes
abbrev pub starting_over : Calls Sign
starting_over = receiving (λ s mid b. stays (reset_of s) (outcome_told (Ok ResetHeard)))

-- a sign that moves on where it answers no: every refused packet is a reset
abbrev pub shaken : Calls Sign
shaken = receiving (λ s mid b. stays (reset_of s) (no 1))

-- a sign that never notes a completed number
abbrev pub forgets : Sign → Heard Sign → Heard Sign
forgets s h =
    record {
      told = h.told;
      next = record { completed = s.completed; slots = h.next.slots; room = h.next.room; run = h.next.run };
      body = h.body;
    }

abbrev pub forgetful : Calls Sign
forgetful = receiving (λ s mid b. forgets s (ours.receive s mid b))

-- a record with other completed numbers, and an answer with such a record
abbrev pub knowing : Completed → Sign → Sign
knowing d s = record { completed = d; slots = s.slots; room = s.room; run = s.run }

abbrev pub recalling : (Completed → Completed) → Heard Sign → Heard Sign
recalling f h = record { told = h.told; next = knowing (f h.next.completed) h.next; body = h.body }

-- the rule of version 1.2: the newest completed number alone is known
abbrev pub newest_alone : Completed → Completed
newest_alone d = when (eqb d.count 0) d (record { count = 1; ids = last_of d ∷ 0 ∷ 0 ∷ 0 ∷ [] })

abbrev pub narrow : Calls Sign
narrow = receiving (λ s mid b. ours.receive (knowing (newest_alone s.completed) s) mid b)

-- a sign that remembers three completed numbers
abbrev pub three_of : Completed → Completed
three_of d = when (ltb 3 d.count) (record { count = 3; ids = take 3 d.ids ++ (0 ∷ []) }) d

abbrev pub brief : Calls Sign
brief = receiving (λ s mid b. recalling three_of (ours.receive s mid b))

-- a sign that forgets no completed number, but by the call that resets
pub record Hoarded : Type 0 where
  pub sign : Sign
  pub older : List ℕ

abbrev pub is_old : Result Packet Refusal → List ℕ → Bool
is_old (Ok Query) older = false
is_old (Ok Reset) older = false
is_old (Ok (Normal id total position len)) older = is_among id older
is_old (Err e) older = false

abbrev pub hoarding : Calls Hoarded
hoarding =
    works ours.forecast (λ x. x.sign) (record { sign = ours.power; older = [] })
    (λ x mid b.
    when (is_old (read_of mid b) x.older) (stays x (outcome_told (Ok Repeat)))
    (record {
      told = (ours.receive x.sign mid b).told;
      next = record { sign = (ours.receive x.sign mid b).next; older = ids_of x.sign.completed ++ x.older };
      body = (ours.receive x.sign mid b).body;
    }))
    (λ x. record { told = (ours.step x.sign).told; next = record { sign = (ours.step x.sign).next; older = x.older } })
    (λ x. record { told = (ours.clear x.sign).told; next = record { sign = (ours.clear x.sign).next; older = [] } })
    (λ x. ours.reply x.sign)
    (λ x. ours.copy x.sign)

-- a sign that forgets the completed numbers on a query
abbrev pub on_query : Result Packet Refusal → Heard Sign → Heard Sign
on_query (Ok Query) h = recalling (λ d. no_completed) h
on_query (Ok Reset) h = h
on_query (Ok (Normal id total position len)) h = h
on_query (Err e) h = h

abbrev pub distracted : Calls Sign
distracted = receiving (λ s mid b. on_query (read_of mid b) (ours.receive s mid b))

-- a sign that takes a late copy for the newest number: it moves to the front
abbrev pub others : ℕ → List ℕ → List ℕ
others id [] = []
others id (x ∷ xs) = when (eqb id x) xs (x ∷ others id xs)

abbrev pub fronted : Sign → Result Packet Refusal → Heard Sign → Heard Sign
fronted s (Ok (Normal id total position len)) h =
    when (has_of s.completed id) (recalling (λ d. record { count = d.count; ids = id ∷ others id d.ids }) h) h
fronted s (Ok Query) h = h
fronted s (Ok Reset) h = h
fronted s (Err e) h = h

abbrev pub flustered : Calls Sign
flustered = receiving (λ s mid b. fronted s (read_of mid b) (ours.receive s mid b))

-- a sign that takes other data for a packet that it holds as a Repeat
abbrev pub agrees : Heard Sign → Heard Sign
agrees h = when (eqb h.told.number 13) (stays h.next (outcome_told (Ok Repeat))) h

abbrev pub agreeable : Calls Sign
agreeable = receiving (λ s mid b. agrees (ours.receive s mid b))

-- a Ready sign that takes packets for any MID
abbrev pub deaf : Calls Sign
deaf =
    receiving
    (λ s mid b. when (eqb s.run.len 0 and eqb (ours.read mid b).number 5) (ours.receive s (get_or b 0 0) b) (ours.receive s mid b))

-- a sign that refuses a packet out of order, but for one of a completed number
abbrev pub in_order : Sign → Result Packet Refusal → Heard Sign → Heard Sign
in_order s (Ok (Normal id total position len)) h =
    when (has_of s.completed id or eqb position (when (begins_of (collected_of s) id) 0 (held_of s.slots.lens))) h (stays s (no 13))
in_order s (Ok Query) h = h
in_order s (Ok Reset) h = h
in_order s (Err e) h = h

abbrev pub orderly : Calls Sign
orderly = receiving (λ s mid b. in_order s (read_of mid b) (ours.receive s mid b))

-- a sign that answers all but normal packets with a number of its own, a query and a reset too
abbrev pub surly_to : Sign → Result Packet Refusal → Heard Sign → Heard Sign
surly_to s (Ok (Normal id total position len)) h = h
surly_to s (Ok Query) h = stays s (no 99)
surly_to s (Ok Reset) h = stays s (no 99)
surly_to s (Err e) h = stays s (no 99)

abbrev pub surly : Calls Sign
surly = receiving (λ s mid b. surly_to s (read_of mid b) (ours.receive s mid b))

-- a Ready sign that takes a query, and whatever is damaged or for another, as a reset
abbrev pub startled : Sign → Result Packet Refusal → Heard Sign → Heard Sign
startled s (Ok (Normal id total position len)) h = h
startled s (Ok Query) h = stays (reset_of s) (outcome_told (Ok ResetHeard))
startled s (Ok Reset) h = h
startled s (Err e) h = stays (reset_of s) (outcome_told (Ok ResetHeard))

abbrev pub jumpy : Calls Sign
jumpy = receiving (λ s mid b. when (eqb s.run.len 0) (startled s (read_of mid b) (ours.receive s mid b)) (ours.receive s mid b))

-- a sign whose step and reset change nothing, and say Idle and Reset
abbrev pub frozen : Calls Sign
frozen =
    works ours.forecast ours.holds ours.power ours.receive (λ s. record { told = answer_told (Ok None); next = s })
    (λ s. record { told = outcome_told (Ok ResetHeard); next = s })
    ours.reply
    ours.copy

-- a sign that answers 16 to every step of an endless program
abbrev pub sulks : Verdict → Told → Told
sulks (Ok Finite) t = t
sulks (Ok Endless) t = no 16
sulks (Err w) t = t

abbrev pub sulking : Calls Sign
sulking = stepping (λ s. record { told = sulks (judge_of (running_body s)) (ours.step s).told; next = (ours.step s).next })

-- a Ready sign that forgets the completed numbers when it is stepped
abbrev pub drowsy : Calls Sign
drowsy =
    stepping
    (λ s.
    when (eqb s.run.len 0)
    (record { told = (ours.step s).told; next = record { completed = no_completed; slots = s.slots; room = s.room; run = s.run } })
    (ours.step s))

-- a sign that always says Ready
abbrev pub rosy : Calls Sign
rosy = replying (λ s mid sink out. left_by (told_rows s (mid_row mid ∷ short_by (reply_of mid (last_of s.completed) false sink) out ∷ [])) (reply_of mid (last_of s.completed) false sink) out)

-- a sign that copies nothing out
abbrev pub mute : Calls Sign
mute = copying (λ s out. left_by (told_rows s []) [] out)

-- a repeater that knows the standing line alone
abbrev pub parrot : Calls Sign
parrot = repeating (λ body place len standing. standing)

-- a unit that measures texts in a way of its own, and steps and forecasts by that
abbrev pub part_by : (List ℕ → Widths) → List ℕ → Part → Part
part_by f b (act a) =
    act (record { size = a.size; kind = a.kind; number = a.number; text = a.text; len = a.len; widths = f (take a.len (drop a.text b)) })
part_by f b (rep n z) = rep n z
part_by f b close = close
part_by f b forever = forever
part_by f b again = again

abbrev pub tok_by : (List ℕ → Widths) → List ℕ → Tok → Tok
tok_by f b (good c) = good (part_by f b c)
tok_by f b (bad w) = bad w

abbrev pub block_by : (List ℕ → Widths) → List ℕ → Block
block_by f b = (tree_of (tokens (λ p. tok_by f b (get b p)) (length b) (length b) 0)).block

abbrev pub foretold_by : (List ℕ → Widths) → List ℕ → Settings → Result Foretold Fault → Result Foretold Fault
foretold_by f b σ (Ok (Ends t pace each)) =
    Ok (Ends (totals_of t.steps.0 (price_of scans (block_by f b) σ) (price_of millis (block_by f b) σ)) pace each)
foretold_by f b σ (Ok Never) = Ok Never
foretold_by f b σ (Err w) = Err w

abbrev pub said_by : (List ℕ → Widths) → Sign → Told
said_by f s = answer_told (say_of (said_at (tok_by f (running_body s) (get (running_body s) s.run.place)) s.run.settings))

abbrev pub measuring : (List ℕ → Widths) → Calls Sign
measuring f =
    works (λ b pace each. forecast_told (foretold_by f b (settings_at pace each) (forecast_of b pace each))) ours.holds ours.power ours.receive
    (λ s.
    when (eqb s.run.len 0 or ltb 0 (ours.step s).told.number) (ours.step s) (record { told = said_by f s; next = (ours.step s).next }))
    ours.clear
    ours.reply
    ours.copy

-- the rule of version 1.0: the blank edge counts as text
abbrev pub dated : Calls Sign
dated = measuring (λ s. record { whole = (widths_of s).whole; lit = (widths_of s).whole })

-- the blank edge by the font that is in force at the text's end, and not at the last character
abbrev pub trailing : Calls Sign
trailing =
    measuring
    (λ s. record { whole = (measured_of s).whole; lit = (measured_of s).whole - when (eqb (measured_of s).edge 0) 0 (measured_of s).font.blank })

-- a sign that plays a line again after its end: it keeps the last body
pub record Played : Type 0 where
  pub sign : Sign
  pub line : List ℕ

abbrev pub kept_line : (before released : List ℕ) → List ℕ
kept_line before [] = before
kept_line before (x ∷ xs) = x ∷ xs

abbrev pub once_more : Played → Sign
once_more x =
    when (eqb x.sign.run.len 0)
    (record {
      completed = x.sign.completed;
      slots = x.sign.slots;
      room = room_of x.line;
      run = started_of (length x.line) x.sign.run.settings;
    })
    x.sign

abbrev pub played_on : List ℕ → Next Sign → Next Played
played_on line n = record { told = n.told; next = record { sign = n.next; line = line } }

abbrev pub encore : Calls Played
encore =
    works ours.forecast (λ x. x.sign) (record { sign = ours.power; line = [] })
    (λ x mid b.
    record {
      told = (ours.receive x.sign mid b).told;
      next = record { sign = (ours.receive x.sign mid b).next; line = kept_line x.line (ours.receive x.sign mid b).body };
      body = (ours.receive x.sign mid b).body;
    })
    (λ x. played_on x.line (ours.step (once_more x)))
    (λ x. played_on [] (ours.clear x.sign))
    (λ x. ours.reply x.sign)
    (λ x. ours.copy x.sign)

-- a sign that performs its first pass and then only counts: it has what is left to say in a script
pub record Scripted : Type 0 where
  pub sign : Sign
  pub script : List Told

-- each loop of a block passed once
abbrev pub once : Block → Settings → List Performed
once stop σ = []
once (one a t) σ = says_of (act a) σ ∷ once t (sets_of a σ)
once (loop n z body t) σ = says_of (rep n z) σ ∷ (once body σ ++ (says_of close σ ∷ once t (leaves_of body σ)))

abbrev pub script_of : (before : List Told) → (body : List ℕ) → Settings → List Told
script_of before [] σ = before
script_of before (x ∷ xs) σ = told_of_all (once (tree_in (x ∷ xs)).block σ)

abbrev pub first_said : List Told → Told
first_said [] = answer_told (Ok None)
first_said (t ∷ ts) = t

abbrev pub rest_said : List Told → List Told
rest_said [] = []
rest_said (t ∷ ts) = ts

abbrev pub counting : Calls Scripted
counting =
    works ours.forecast (λ x. x.sign) (record { sign = ours.power; script = [] })
    (λ x mid b.
    record {
      told = (ours.receive x.sign mid b).told;
      next = record {
        sign = (ours.receive x.sign mid b).next;
        script = script_of x.script (ours.receive x.sign mid b).body x.sign.run.settings;
      };
      body = (ours.receive x.sign mid b).body;
    })
    (λ x. record { told = first_said x.script; next = record { sign = (ours.step x.sign).next; script = rest_said x.script } })
    (λ x. record { told = (ours.clear x.sign).told; next = record { sign = (ours.clear x.sign).next; script = [] } })
    (λ x. ours.reply x.sign)
    (λ x. ours.copy x.sign)
