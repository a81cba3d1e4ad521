-- Pieces that go to a sink one after the other.
use Rattle.std.proofs.Common.{ℕ, ◌+◌, ◌-◌, ◌≤◌, List, length, take, drop, arith, length-drop}
use Rattle.std.specs.Prelude.{Option}
use Rattle.std.specs.Io.KnownBytes.{Appends}
use Rattle.std.proofs.KnownBytes.{Appends-trans}
use Rattle.std.proofs.Math.Seq.{take-add}
use Rattle.std.proofs.lemmas.List.{take_rest}
use Rattle.sph_edge.specs.Bytes.{AppendsPrefix}

-- the first bytes of the rest join the first that went
pub Appends-next : (a b c : Option (List ℕ)) (piece : List ℕ) (done count : ℕ) → Appends a b (take done piece)
    → Appends b c (take count (take (length piece - done) (drop done piece))) → Appends a c (take (done + count) piece)
Appends-next a b c piece done count p q =
    rw take-add (Appends-trans a b c (take done piece) (take count (drop done piece)) p (rw take_rest at q))

-- some of the first bytes of the rest join them too
pub AppendsPrefix-next : (a b c : Option (List ℕ)) (piece : List ℕ) (done : ℕ) → done ≤ length piece → Appends a b (take done piece)
    → AppendsPrefix b c (take (length piece - done) (drop done piece)) → AppendsPrefix a c piece
AppendsPrefix-next a b c piece done below p q = record {
  count = done + q.count;
  within = let most : q.count ≤ length piece - done = simp (take_rest, length-drop) at q.within in omega arith;
  appended = Appends-next a b c piece done q.count p q.appended;
}
