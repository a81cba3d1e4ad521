-- The test whether a task meets a pair decides the relation.
use Rattle.std.proofs.Common.{◌≡◌, ℕ, ◌==◌, ◌&&◌, not, List, refl, ◌∙◌}
use Rattle.std.proofs.lemmas.List.{get_or_default}
use Rattle.std.specs.Prelude.{Option, Some, None, is_none}
use Rattle.std.specs.Bool.{Decides}
use Rattle.std.specs.List.{Contains}
use Rattle.std.proofs.lemmas.Bool.Decides.{Decides-eqb, Decides-like, Decides-not, Decides-and, Decides-or, Decides-by_or}
use Rattle.sph_num.specs.declared.kind.Kind.{Kind}
use Rattle.sph_num.specs.declared.kind.Kind.TheVariants.{Drift, Density, Ghost, Force, Kick}
use Rattle.sph_num.specs.Cover.{Group, MeetIn, Meets, MeetsItself, MeetsAs, is_member, meet_in, meets_pair, meets_itself, meets}

is_member-decides : (members : List ℕ) (i : ℕ) → Decides (is_member members i) (Contains members i)
is_member-decides members i =
    Decides-like (is_member members i)
    (λ held. (held.0, held.1, held.2 i))
    (λ held. (held.0, held.1, λ d. get_or_default members held.0 d i held.1 ∙ held.2))
    (Decides-by_or (λ member. member == i) (λ member. member ≡ i) (λ xs. is_member xs i) (λ member. Decides-eqb member i) refl (λ _ _. refl) members)

is_none-decides : (o : Option (List ℕ)) → Decides (is_none o) (o ≡ None)
is_none-decides None = (λ _. refl, λ _. refl)
is_none-decides (Some x) = (λ e. cc, λ e. cc)

meet_in-decides : (first : List ℕ) (second : Option (List ℕ)) (i j : ℕ) → Decides (meet_in first second i j) (MeetIn first second i j)
meet_in-decides first None i j =
    Decides-and (is_member first i) (is_member first j) (is_member-decides first i) (is_member-decides first j)
meet_in-decides first (Some second) i j =
    let here = Decides-and (is_member first i) (is_member second j) (is_member-decides first i) (is_member-decides second j) in
    let turned = Decides-and (is_member first j) (is_member second i) (is_member-decides first j) (is_member-decides second i) in
    Decides-or (is_member first i && is_member second j) (is_member first j && is_member second i) here turned

meets_pair-decides : (i j : ℕ) (group : Group) → Decides (meets_pair i j group) (Meets i j group)
meets_pair-decides i j group =
    Decides-and (not (i == j)) (meet_in group.first group.second i j) (Decides-not (i == j) (Decides-eqb i j)) (meet_in-decides group.first group.second i j)

meets_itself-decides : (i : ℕ) (group : Group) → Decides (meets_itself i group) (MeetsItself i group)
meets_itself-decides i group =
    Decides-like (meets_itself i group) (λ both. record { one_cell = both.0; member = both.1 }) (λ is. (is.one_cell, is.member))
    (Decides-and (is_none group.second) (is_member group.first i) (is_none-decides group.second) (is_member-decides group.first i))

-- so a task meets a pair just where the test says so
pub meets-decides : (kind : Kind) (i j : ℕ) (group : Group) → Decides (meets kind i j group) (MeetsAs kind i j group)
meets-decides Density i j group =
    Decides-or (meets_pair i j group) ((i == j) && meets_itself i group) (meets_pair-decides i j group)
    (Decides-and (i == j) (meets_itself i group) (Decides-eqb i j) (meets_itself-decides i group))
meets-decides Force i j group = meets_pair-decides i j group
meets-decides Drift i j group = (λ e. cc, λ none. absurd none)
meets-decides Ghost i j group = (λ e. cc, λ none. absurd none)
meets-decides Kick i j group = (λ e. cc, λ none. absurd none)
