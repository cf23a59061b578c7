-- A sound record depends only on what it holds: of equal IDs, packets, running body, places, count and settings, two are one.
use Prim.Native.Nat.{ℕ, ◌-◌}
use mathlib.Core.List.{List, ◌++◌}
use mathlib.Core.Bool.{Bool, true, false}
use mathlib.Core.Path.{◌≡◌, refl, sym, ap, ◌∙◌}
use native.Mathlib.Omega.{arith}
use lib.Dec.{eqb}
use lib.ListN.{length, drop, length-drop, take-append-drop}
use lib.Seq.{length-take-le}
use borrow.Author.Tests.{eqb-true, eqb-false}
use Rattle.perform.specs.declared.settings.Settings.{Settings}
use Rattle.completed.specs.Completed.{ids_of}
use Rattle.completed.specs.declared.Completed.{Completed}
use Rattle.completed.proofs.Laws.{same_completed}
use Rattle.collect.specs.Slots.{Collection, slots_in, packets_of}
use Rattle.collect.specs.declared.Slots.{Slots}
use Rattle.room.proofs.Unused.{all_zeros}
use Rattle.collect.proofs.Joined.{blank}
use Rattle.collect.proofs.Only.{Neat, one_collection}
use Rattle.collect.proofs.Sounds.{sound_slots}
use Rattle.machine.specs.Sound.{body_of}
use Rattle.machine.specs.declared.Loop.{Loop}
use Rattle.machine.proofs.Sounds.{sound_parts as run_parts}
use Rattle.sign.specs.declared.Sign.{Sign}
use Rattle.sign.specs.Sound.{collected_of}
use Rattle.sign.proofs.Sounds.{sound_parts, ready_collected, busy_nothing, body_fits}
use Rattle.service.specs.Good.{Good}
use Rattle.service.proofs.Keeps.{nothing_none}

-- the running body has the length that the record says
body_size : (s : Sign) → Good s → length (body_of s.room s.run) ≡ s.run.len
body_size s g = length-take-le s.run.len s.room (body_fits s g.sound)

-- the room of a Busy record is its body and zeros
body_room : (s : Sign) → Good s → (s.run.len ≡ 0 → ⊥) → s.room ≡ body_of s.room s.run ++ blank (84 - s.run.len)
body_room s g busy =
    let p = run_parts s.room s.run (sound_parts s g.sound).run in
    let rest = drop s.run.len s.room in
    let size : length rest ≡ 84 - s.run.len = omega (arith, length-drop s.run.len s.room, g.roomy.room) in
    sym (take-append-drop s.run.len s.room)
    ∙ ap (λ (xs : List ℕ). body_of s.room s.run ++ xs) (all_zeros rest (p.clean busy) ∙ ap blank size)

-- what two records hold alike
pub record Alike (s t : Sign) : Type 0 where
  pub ids : ids_of s.completed ≡ ids_of t.completed
  pub id : s.slots.id ≡ t.slots.id
  pub total : s.slots.total ≡ t.slots.total
  pub packets : packets_of s.slots.lens s.room ≡ packets_of t.slots.lens t.room
  pub body : body_of s.room s.run ≡ body_of t.room t.run
  pub place : s.run.place ≡ t.run.place
  pub inner : s.run.inner ≡ t.run.inner
  pub settings : s.run.settings ≡ t.run.settings

neat : (s : Sign) → Good s → s.run.len ≡ 0 → Neat (collected_of s)
neat s g ready =
    record {
      slots = sound_slots s.completed (collected_of s) (ready_collected s g.sound ready);
      lens = g.roomy.lens;
      room = g.roomy.room;
    }

module _ (s t : Sign) (g : Good s) (h : Good t) (a : Alike s t) where
  -- equal IDs, in order, are the same completed IDs
  one_memory : s.completed ≡ t.completed
  one_memory =
      same_completed s.completed t.completed (sound_parts s g.sound).completed (sound_parts t h.sound).completed g.roomy.ids
      h.roomy.ids
      a.ids

  one_len : s.run.len ≡ t.run.len
  one_len = sym (body_size s g) ∙ ap length a.body ∙ body_size t h

  -- Ready, the room goes by the packets; Busy, by the body
  one_room : (s.slots ≡ t.slots) × (s.room ≡ t.room)
  one_room = go (eqb s.run.len 0) refl
    where
      go : (b : Bool) → eqb s.run.len 0 ≡ b → (s.slots ≡ t.slots) × (s.room ≡ t.room)
      go true e =
          let ready = eqb-true s.run.len 0 e in
          let c : collected_of s ≡ collected_of t =
          one_collection (collected_of s) (collected_of t) (neat s g ready) (neat t h (sym one_len ∙ ready)) a.id a.total a.packets in
          (ap slots_in c, ap (λ (x : Collection). x.room) c)
      go false e =
          let busy = eqb-false s.run.len 0 e in
          let also : t.run.len ≡ 0 → ⊥ = λ z. busy (one_len ∙ z) in (
            nothing_none s.slots g.roomy.lens (busy_nothing s g.sound busy)
                ∙ sym (nothing_none t.slots h.roomy.lens (busy_nothing t h.sound also)),
            body_room s g busy
                ∙ ap (λ (xs : List ℕ). xs ++ blank (84 - s.run.len)) a.body
                ∙ ap (λ (k : ℕ). body_of t.room t.run ++ blank (84 - k)) one_len
                ∙ sym (body_room t h also),
          )

pub one_record : (s t : Sign) → Good s → Good t → Alike s t → s ≡ t
one_record s t g h a =
    let w = one_room s t g h a in
    ap (λ (d : Completed). made d s.slots s.room s.run.len s.run.place s.run.inner s.run.settings) (one_memory s t g h a)
    ∙ ap (λ (x : Slots). made t.completed x s.room s.run.len s.run.place s.run.inner s.run.settings) w.0
    ∙ ap (λ (xs : List ℕ). made t.completed t.slots xs s.run.len s.run.place s.run.inner s.run.settings) w.1
    ∙ ap (λ (n : ℕ). made t.completed t.slots t.room n s.run.place s.run.inner s.run.settings) (one_len s t g h a)
    ∙ ap (λ (n : ℕ). made t.completed t.slots t.room t.run.len n s.run.inner s.run.settings) a.place
    ∙ ap (λ (x : Loop). made t.completed t.slots t.room t.run.len t.run.place x s.run.settings) a.inner
    ∙ ap (λ (x : Settings). made t.completed t.slots t.room t.run.len t.run.place t.run.inner x) a.settings
  where
    made : Completed → Slots → List ℕ → ℕ → ℕ → Loop → Settings → Sign
    made completed slots room len place inner settings =
        record { completed = completed; slots = slots; room = room; run = record { len = len; place = place; inner = inner; settings = settings } }
