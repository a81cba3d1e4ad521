use Rattle.std.proofs.Common.{rules, ◌≡◌, ◌∙◌, sym, max}
use Rattle.std.specs.Prelude.{fold, unsigned_abs}
use Rattle.std.proofs.lemmas.List.Folds.{fold-map}
use Rattle.sph_num.proofs.vector.greatest_size.Goals as goal

pub returns : goal.returns
returns c =
    let folded : c.fold.result ≡ fold (λ a x. max a (unsigned_abs x)) 0 c.args.vector.now = search rules in
    folded ∙ sym (fold-map max unsigned_abs 0 c.args.vector.now)
