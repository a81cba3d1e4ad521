use Rattle.std.proofs.Common.{arith, ◌≡◌, ◌≤◌, min, length, take, drop, length-take, length-drop, length-append}
use Rattle.std.proofs.lemmas.List.{take_rest}
use Rattle.sph_edge.proofs.Supplies.{front-append-rest, drop_none}
use Rattle.sph_edge.proofs.memory.MemorySourceSource.take.Goals as goal

pub returns-clause-bytes : goal.returns-clause-bytes
returns-clause-bytes c =
    let bytes = c.self.inside.bytes.items in
    let next = c.self.inside.next in
    let count = c.min-count.result in
    let copied : c.copy_from_slice.new.self ≡ take count (drop next bytes) =
    rw (← take_rest bytes next, ← c.deref-2.ensures.value) c.copy_from_slice.ensures.after in
    let most : count ≤ length c.args.into.now = omega arith in
    let full : length c.copy_from_slice.new.self ≡ count = omega (arith, c.copy_from_slice.ensures.len, length-take count c.args.into.now) in
    let left : count ≡ min c.self.inside.most (min (length c.args.into.now) (length (drop next bytes))) =
    rw (← take_rest bytes next, ← c.deref-2.ensures.value, ← c.min.ensures) c.min-count.ensures in
    rw (← c.self.view_is) (
      front-append-rest bytes _ c.args.into.now next count copied full,
      λ none some. drop_none bytes next (omega (arith, length-append c.copy_from_slice.new.self (drop count c.args.into.now), length-drop count c.args.into.now)) count,
    )
