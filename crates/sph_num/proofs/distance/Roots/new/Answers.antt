use Rattle.std.proofs.Common.{refl, rules}
use Rattle.std.proofs.lemmas.Iterator.{items_from_collect, YieldsList-from_map, YieldsList-from_range}
use Rattle.sph_num.specs.inner.Parts.{coarse_root}
use Rattle.sph_num.proofs.Tabled.{IsTableOf-collected}
use Rattle.sph_num.proofs.distance.Roots.new.Goals as goal

pub invariant_of-result : goal.invariant_of-result
invariant_of-result c =
    let steps = YieldsList-from_range 0 4096 4096 c.map.ensures.source refl in
    let items = items_from_collect _ c.collect.ensures.ran (YieldsList-from_map _ coarse_root steps c.map.ensures.closure (λ x r q k. search rules)) in
    record { are_roots = IsTableOf-collected coarse_root 4096 c.collect.result c.in_ok-table.table (λ v. v.items) items c.in_ok-table.was }
