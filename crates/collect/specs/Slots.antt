-- The slots of a collection (J1): a length for each position (0: not held), and 14 bytes of room for each, in a row.
-- Rules W5 and R5 say what a slot may hold; J6 begins, J8 compares, J9 stores, J10 joins.
use Rattle.std.specs.Prelude.{ℕ, ◌+◌, ◌-◌, ◌*◌, List, [], ◌∷◌, ◌++◌, Bool, true, false, eqb, leb, length, take, drop, set, replicate}
use Rattle.basis.specs.Bytes.{laid}
use Rattle.basis.specs.Choice.{when, ◌and◌, ◌or◌}
use Rattle.room.specs.Room.{zeros_of}
use Rattle.collect.specs.declared.Slots.{Slots}

-- what is collected: the slots with the room that their data stand in
pub record Collection : Type 0 where
  pub id : ℕ
  pub total : ℕ
  pub lens : List ℕ
  pub room : List ℕ

-- slots and a room as a collection, and the slots of a collection
abbrev pub collection_of : Slots → List ℕ → Collection
collection_of s room = record { id = s.id; total = s.total; lens = s.lens; room = room }

abbrev pub slots_in : Collection → Slots
slots_in c = record { id = c.id; total = c.total; lens = c.lens }

-- what may be held at a position: nothing from N on; 1 to 14 bytes at the last; 14 before it; and nothing anywhere (0)
abbrev pub rule_of : ℕ → ℕ → ℕ → Bool
rule_of total position len =
    when (leb total position) (eqb len 0)
    (when (leb (total - position) 1) (leb len 14) (eqb len 0 or eqb len 14))

-- each slot obeys the rules, and unused room holds zeros
unfoldable pub slots_of : ℕ → ℕ → List ℕ → List ℕ → Bool
slots_of total position [] room = true
slots_of total position (len ∷ lens) room =
    rule_of total position len and zeros_of (take (14 - len) (drop len room)) and slots_of total (position + 1) lens (drop 14 room)

abbrev pub one_of : ℕ → ℕ
one_of len = when (eqb len 0) 0 1

-- how many positions are held
unfoldable pub held_of : List ℕ → ℕ
held_of [] = 0
held_of (len ∷ lens) = one_of len + held_of lens

-- the data joined by position
unfoldable pub joined_of : List ℕ → List ℕ → List ℕ
joined_of [] room = []
joined_of (len ∷ lens) room = take len room ++ joined_of lens (drop 14 room)

-- equal data: of one length, byte by byte
unfoldable pub same_of : List ℕ → List ℕ → Bool
same_of [] [] = true
same_of [] (y ∷ ys) = false
same_of (x ∷ xs) [] = false
same_of (x ∷ xs) (y ∷ ys) = eqb x y and same_of xs ys

-- a collection that holds nothing yet
unfoldable pub begun_of : ℕ → ℕ → Collection
begun_of id total = record { id = id; total = total; lens = replicate 6 0; room = replicate 84 0 }

-- none collected
abbrev pub none_of : Collection
none_of = begun_of 0 0

-- a packet's data stored at its position
unfoldable pub stored_of : Collection → ℕ → List ℕ → Collection
stored_of c position part =
    record {
      id = c.id;
      total = c.total;
      lens = set c.lens position (length part);
      room = laid (take (14 * position) c.room ++ part) c.room;
    }

-- the packets held, position by position; an empty one is not held
abbrev pub packets_of : List ℕ → List ℕ → List (List ℕ)
packets_of [] room = []
packets_of (len ∷ lens) room = take len room ∷ packets_of lens (drop 14 room)
