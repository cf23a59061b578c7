-- The image of a record (N251): the parts of J1 as 106 bytes at fixed places, and the record that any image is. One
-- room holds the packets or the body (R5).
use Rattle.std.specs.Prelude.{ℕ, ◌%◌, List, [], ◌∷◌, ◌++◌, get_or, take, drop}
use Rattle.perform.specs.declared.settings.Settings.{Settings}
use Rattle.machine.specs.declared.Run.{Run}
use Rattle.sign.specs.declared.Sign.{Sign}

-- an image has so many bytes
abbrev pub image_size : ℕ
image_size = 106

-- pace, scans per shift, AUX drive (1 sinks), dim threshold, forced brightness
abbrev pub settings_bytes : Settings → List ℕ
settings_bytes σ = σ.pace ∷ σ.scans ∷ σ.sink ∷ σ.dim ∷ σ.bright ∷ []

-- the body's length, place, loop place, count left, and the settings; a byte holds a length or a place below 256
abbrev pub run_bytes : Run → List ℕ
run_bytes r = r.len % 256 ∷ r.place % 256 ∷ r.inner.place % 256 ∷ r.inner.left ∷ settings_bytes r.settings

-- how many completed IDs, and the four; collected ID, packet total, 6 lengths; 84 bytes of room; the run
unfoldable pub image_of : Sign → List ℕ
image_of s =
    s.completed.count ∷ (s.completed.ids ++ s.slots.id ∷ s.slots.total ∷ (s.slots.lens ++ (s.room ++ run_bytes s.run)))

-- the run in an image, field by field from the same places
abbrev pub run_in : List ℕ → Run
run_in b =
    record {
      len = get_or b 97 0;
      place = get_or b 98 0;
      inner = record { place = get_or b 99 0; left = get_or b 100 0 };
      settings = record { pace = get_or b 101 0; scans = get_or b 102 0; sink = get_or b 103 0; dim = get_or b 104 0; bright = get_or b 105 0 };
    }

-- the record of an image, field by field from the same places
unfoldable pub record_of : List ℕ → Sign
record_of b =
    record {
      completed = record { count = get_or b 0 0; ids = take 4 (drop 1 b) };
      slots = record { id = get_or b 5 0; total = get_or b 6 0; lens = take 6 (drop 7 b) };
      room = take 84 (drop 13 b);
      run = run_in b;
    }
