-- The faults of a walk, met one after another.
use Rattle.std.proofs.Common.{◌≡◌, ◌⊎◌, Option, Some, None, inl, inr, refl}
use Rattle.sph_deck.specs.declared.fault.DeckFault.{DeckFault}
use Rattle.sph_deck.specs.FirstFault.{IsNoLater}
use Rattle.sph_deck.specs.inner.Meets.{IsCovered, IsFirst, Meets}
use Rattle.sph_deck.proofs.Order.{no_later-refl, no_later-trans}

-- what covers a fault covers a later one
covers_later : (o : Option DeckFault) (a b : DeckFault) → IsCovered o a → IsNoLater a b → IsCovered o b
covers_later None a b h later = absurd h
covers_later (Some kept) a b h later = no_later-trans kept a b h later

-- what covers each fault that is kept covers what that covers
covered_through : (before after : Option DeckFault) (fault : DeckFault) → IsCovered before fault → ((f : DeckFault) → before ≡ Some f → IsCovered after f) → IsCovered after fault
covered_through None after fault h through = absurd h
covered_through (Some f) after fault h through = covers_later after f fault (through f refl) h

-- nothing is covered where nothing is kept
uncovered : (o : Option DeckFault) (fault : DeckFault) → o ≡ None → IsCovered o fault → ⊥
uncovered o fault none h = rw none at h

-- a fault of the first step is kept, or was kept before
from_first : {P : DeckFault → Type 0} {a b : Option DeckFault} (Q : DeckFault → Type 0) → Meets P a b → (fault : DeckFault) → b ≡ Some fault → (a ≡ Some fault) ⊎ (P fault ⊎ Q fault)
from_first Q m fault is = elim (m.from fault is) [ inl was ↦ inl was | inr one ↦ inr (inl one) ]

-- a step that meets nothing
pub meets_none : {a : Option DeckFault} → Meets (λ fault. ⊥) a a
meets_none {a} = record {
  kept = λ fault is. rw is (no_later-refl fault);
  met = λ fault one. absurd one;
  from = λ fault is. inl is;
}

module _ {P Q : DeckFault → Type 0} {a b c : Option DeckFault} where
  -- two steps, one after the other
  pub meets_both : Meets P a b → Meets Q b c → Meets (λ fault. P fault ⊎ Q fault) a c
  meets_both m n = record {
    kept = λ fault is. covered_through b c fault (m.kept fault is) n.kept;
    met = λ fault one. elim one [ inl p ↦ covered_through b c fault (m.met fault p) n.kept | inr q ↦ n.met fault q ];
    from = λ fault is. elim (n.from fault is) [ inl was ↦ from_first Q m fault was | inr q ↦ inr (inr q) ];
  }

module _ {P Q : DeckFault → Type 0} {a b : Option DeckFault} where
  -- the same faults, said in another way
  pub meets_as : ((fault : DeckFault) → P fault → Q fault) → ((fault : DeckFault) → Q fault → P fault) → Meets P a b → Meets Q a b
  meets_as to back m = record {
    kept = m.kept;
    met = λ fault one. m.met fault (back fault one);
    from = λ fault is. elim (m.from fault is) [ inl was ↦ inl was | inr one ↦ inr (to fault one) ];
  }

-- a step that keeps nothing had kept nothing before
pub none_before : {P : DeckFault → Type 0} (a b : Option DeckFault) → Meets P a b → b ≡ None → a ≡ None
none_before None b m none = refl
none_before (Some f) b m none = absurd (uncovered b f none (m.kept f refl))

-- and met nothing
pub none_met : {P : DeckFault → Type 0} {a b : Option DeckFault} → Meets P a b → b ≡ None → (fault : DeckFault) → P fault → ⊥
none_met {P} {a} {b} m none fault one = uncovered b fault none (m.met fault one)

-- what a walk keeps in the end is the first
pub first_met : {P : DeckFault → Type 0} (b : Option DeckFault) (fault : DeckFault) → Meets P None b → b ≡ Some fault → IsFirst P fault
first_met {P} b fault m is = record {
  is_one = elim (m.from fault is) [ inl was ↦ cc | inr one ↦ one ];
  first = λ other one. let h = m.met other one in rw is at h;
}
