use Rattle.std.proofs.Common.{rules, ◌≡◌, ◌∙◌, refl, Option, Some, None}
use borrow.Author.Tests.{tests}
use Rattle.std.specs.Option.{option_map}
use Rattle.std.specs.Str.{bytes_eq}
use Rattle.std.proofs.lemmas.Iterator.{YieldsList-from_map, YieldsList-from_slice}
use Rattle.std.proofs.lemmas.Iterator.Consumers.{YieldsList-at}
use Rattle.std.proofs.lemmas.Iterator.Search.{find_from_yields_List}
use Rattle.sph_deck.specs.Keys.{name_of}
use Rattle.sph_deck.proofs.key.Key.named.Goals as goal

same : {A : Type 0} (r : Option A) → r ≡ option_map (λ x. x) r
same None = refl
same (Some x) = refl

pub returns : goal.returns
returns c =
    same c.find.result
    ∙ find_from_yields_List (λ key. bytes_eq (name_of key) c.args.name.now) _ _ c.find.result c.find.ensures.ran
    (YieldsList-from_map _ (λ entry. entry.0) (YieldsList-at c.map.ensures.source (YieldsList-from_slice _ c.iter.ensures.rest)) c.map.ensures.closure (λ x r q k. search rules))
    (λ x b q k. search (rules, tests))
