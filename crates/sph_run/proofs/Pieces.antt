-- Pieces that go to a sink one after the other.
use Rattle.std.proofs.Common.{ℕ, ◌+◌, List, ◌++◌, length, take, arith, sym, subst, length-append}
use Rattle.std.specs.Prelude.{Option}
use Rattle.std.specs.Io.KnownBytes.{Appends}
use Rattle.std.proofs.KnownBytes.{Appends-trans}
use Rattle.std.proofs.Math.Seq.{take-append-add}
use Rattle.std.proofs.lemmas.List.{take-append-le}
use Rattle.sph_edge.specs.Bytes.{AppendsPrefix}

-- some first bytes of the first piece are some of the whole
pub AppendsPrefix-first : (a b : Option (List ℕ)) (first rest : List ℕ) → AppendsPrefix a b first → AppendsPrefix a b (first ++ rest)
AppendsPrefix-first a b first rest p = record {
  count = p.count;
  within = let within = p.within in omega (arith, length-append first rest);
  appended = subst (Appends a b) (sym (take-append-le p.count first rest p.within)) p.appended;
}

-- some first bytes of the second piece, behind the whole first one, are some of the whole
pub AppendsPrefix-rest : (a b c : Option (List ℕ)) (first rest : List ℕ) → Appends a b first → AppendsPrefix b c rest → AppendsPrefix a c (first ++ rest)
AppendsPrefix-rest a b c first rest p q = record {
  count = length first + q.count;
  within = let within = q.within in omega (arith, length-append first rest);
  appended = subst (Appends a c) (sym (take-append-add first rest q.count)) (Appends-trans a b c first (take q.count rest) p q.appended);
}
