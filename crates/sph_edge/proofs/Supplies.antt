-- Bytes that are copied from what a source in memory has left to the front of a space.
use Rattle.std.proofs.Common.{◌≡◌, ℕ, ◌+◌, ◌≤◌, List, [], ◌++◌, length, take, drop, arith, sym, length-drop, take-append-drop}
use Rattle.std.proofs.lemmas.List.{take_at, drop-drop, drop_all}

-- the front of the space, and then what stays, is what was left
pub front-append-rest : (bytes front space : List ℕ) (next count : ℕ) → front ≡ take count (drop next bytes) → length front ≡ count
    → drop next bytes ≡ take count (front ++ drop count space) ++ drop (next + count) bytes
front-append-rest bytes front space next count copied full =
    rw (take_at front (drop count space) count full, copied, ← drop-drop count next bytes) (sym (take-append-drop count (drop next bytes)))

-- nothing stays where as much was given as was left
pub drop_none : (bytes : List ℕ) (next : ℕ) → length (drop next bytes) ≤ 0 → (count : ℕ) → drop (next + count) bytes ≡ []
drop_none bytes next none count = drop_all (next + count) bytes (omega (arith, length-drop next bytes))
