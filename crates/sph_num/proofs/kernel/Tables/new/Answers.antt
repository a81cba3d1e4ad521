use Rattle.std.proofs.Common.{refl, rules}
use Rattle.std.proofs.lemmas.Iterator.{items_from_collect, YieldsList-from_map, YieldsList-from_range}
use Rattle.sph_num.specs.Kernel.{kernel_w, kernel_u}
use Rattle.sph_num.proofs.Tabled.{IsTableOf-collected}
use Rattle.sph_num.proofs.kernel.Tables.new.Goals as goal

pub invariant_of-result-clause-w_is_kernel : goal.invariant_of-result-clause-w_is_kernel
invariant_of-result-clause-w_is_kernel c =
    let distances = YieldsList-from_range 0 1025 1025 c.map.ensures.source refl in
    let items = items_from_collect _ c.collect.ensures.ran (YieldsList-from_map _ kernel_w distances c.map.ensures.closure (λ x r q k. search rules)) in
    IsTableOf-collected kernel_w 1025 c.collect.result c.in_ok-w.w (λ w. w.items) items c.in_ok-w.was

pub invariant_of-result-clause-u_is_slope : goal.invariant_of-result-clause-u_is_slope
invariant_of-result-clause-u_is_slope c =
    let distances = YieldsList-from_range 0 1025 1025 c.map-2.ensures.source refl in
    let items = items_from_collect _ c.collect-2.ensures.ran (YieldsList-from_map _ kernel_u distances c.map-2.ensures.closure (λ x r q k. search rules)) in
    IsTableOf-collected kernel_u 1025 c.collect-2.result c.in_ok-u.u (λ u. u.items) items c.in_ok-u.was
