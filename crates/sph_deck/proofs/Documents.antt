-- The first fault, or the deck, of a document.
use Rattle.std.proofs.Common.{◌≡◌, ℕ, ◌≤◌, List, length, Err, ◌∙◌, subst, arith}
use Rattle.sph_num.specs.declared.particle.Params.{Params}
use Rattle.sph_num.specs.declared.particle.Particle.{Particle}
use Rattle.toml.specs.Data.{Members}
use Rattle.sph_deck.specs.declared.deck.Deck.{Deck}
use Rattle.sph_deck.specs.declared.fault.DeckFault.{DeckFault}
use Rattle.sph_deck.specs.declared.fault.DeckFault.TheVariants.{TooLong, NotToml, Unknown, Missing, WrongKind, OutOfRange, NoParticles, TooMany, BadEvery, BadTicks, BadBins, Sums}
use Rattle.sph_deck.specs.declared.refusal.DeckRefusal.{DeckRefusal}
use Rattle.sph_deck.specs.declared.refusal.DeckRefusal.TheVariants.{Fault, Memory}
use Rattle.sph_deck.specs.Accepted.{AreAccepted}
use Rattle.sph_deck.specs.Agreement.{Disagree}
use Rattle.sph_deck.specs.Document.{IsDocument, params_of, particles_of}
use Rattle.sph_deck.specs.Faults.{DisagreesIn, IsAccepted, IsDeckOf, IsReadable, StandsInTable, Stands, longest_text}
use Rattle.sph_deck.specs.FirstFault.{AnswersDeck, IsFirstFault, IsNoLater}
use Rattle.sph_deck.specs.inner.Meets.{IsFirst}
use Rattle.sph_deck.specs.inner.Rows.{IsRefusal, IsTableRead}
use Rattle.sph_deck.proofs.FirstFaults.{IsDocument-unique}

-- the numbers of an accepted deck agree
agree : (params : Params) (particles : List Particle) (fault : DeckFault) → AreAccepted params particles → Disagree params particles fault → ⊥
agree params particles (BadEvery every unit) accepted (a, b, bad) = bad (rw (← a, ← b) accepted.every)
agree params particles (BadTicks ticks every) accepted (a, b, bad) = bad (rw (← a, ← b) accepted.ticks)
agree params particles (BadBins low high) accepted (a, b, bad) = let bins = accepted.bins in omega arith
agree params particles (Sums bound) accepted (a, bad) = let sums = accepted.sums in omega arith
agree params particles _ accepted bad = bad

module _ (bytes : List ℕ) (top : Members) (document : IsDocument bytes top) (short : length bytes ≤ longest_text) where
  -- numbers of the bytes that do not fit together are the table's
  disagreement_here : (fault : DeckFault) → DisagreesIn bytes fault → IsReadable bytes top × Disagree (params_of top) (particles_of top) fault
  disagreement_here fault (other, readable, bad) =
      let P : Members → Type 0 = λ t. IsReadable bytes t × Disagree (params_of t) (particles_of t) fault in
      subst P (IsDocument-unique bytes other top readable.document document) (readable, bad)

  module _ (Q : DeckFault → Type 0) (between : IsReadable bytes top → (fault : DeckFault) → Disagree (params_of top) (particles_of top) fault → Q fault) where
    -- what holds of each fault between the table's numbers holds of each between those of the bytes
    standing_between : (fault : DeckFault) → DisagreesIn bytes fault → Q fault
    standing_between fault h = let (readable, bad) = disagreement_here fault h in between readable fault bad

    -- what holds of each fault of the table besides holds of each fault of the bytes
    standing : ((fault : DeckFault) → StandsInTable top fault → Q fault) → (fault : DeckFault) → Stands bytes fault → Q fault
    standing in_table TooLong h = absurd (omega arith)
    standing in_table NotToml h = absurd (h top document)
    standing in_table (BadEvery every unit) h = standing_between (BadEvery every unit) h
    standing in_table (BadTicks ticks every) h = standing_between (BadTicks ticks every) h
    standing in_table (BadBins low high) h = standing_between (BadBins low high) h
    standing in_table (Sums bound) h = standing_between (Sums bound) h
    standing in_table fault h =
        let P : Members → Type 0 = λ t. StandsInTable t fault in
        in_table fault (subst P (IsDocument-unique bytes h.0 top h.1 document) h.2)

  -- a fault of the table stands in the bytes
  table_stands : (fault : DeckFault) → StandsInTable top fault → Stands bytes fault
  table_stands (Unknown place) h = (top, document, h)
  table_stands (Missing place) h = (top, document, h)
  table_stands (WrongKind place) h = (top, document, h)
  table_stands (OutOfRange place z) h = (top, document, h)
  table_stands NoParticles h = (top, document, h)
  table_stands (TooMany count) h = (top, document, h)
  table_stands _ h = absurd h

  -- so does one between its numbers
  disagreement_stands : (fault : DeckFault) → IsReadable bytes top → Disagree (params_of top) (particles_of top) fault → Stands bytes fault
  disagreement_stands (BadEvery every unit) readable bad = (top, readable, bad)
  disagreement_stands (BadTicks ticks every) readable bad = (top, readable, bad)
  disagreement_stands (BadBins low high) readable bad = (top, readable, bad)
  disagreement_stands (Sums bound) readable bad = (top, readable, bad)
  disagreement_stands _ readable h = absurd h

  -- the first fault of the table is that of the bytes
  first_in_table : (fault : DeckFault) → IsFirst (StandsInTable top) fault → IsFirstFault bytes fault
  first_in_table fault h = record {
    stands = table_stands fault h.is_one;
    first = standing (IsNoLater fault) (λ readable other bad. absurd (readable.clean fault h.is_one)) h.first;
  }

  -- so a refusal for the table is one of the bytes
  pub refused_table : (refusal : DeckRefusal) → IsRefusal (IsFirst (StandsInTable top)) refusal → AnswersDeck bytes (Err refusal)
  refused_table (Fault fault) h = first_in_table fault h
  refused_table Memory h = tt

  module _ (params : Params) (particles : List Particle) (read : IsTableRead top params particles) where
    -- the first fault between the numbers of a table without faults is that of the bytes
    pub first_between : (fault : DeckFault) → IsFirst (Disagree params particles) fault → IsFirstFault bytes fault
    first_between fault h =
        let here : IsFirst (Disagree (params_of top) (particles_of top)) fault = rw (← read.params_are, ← read.particles_are) h in
        record {
          stands = disagreement_stands fault (record { short = short; document = document; clean = read.none }) here.is_one;
          first = standing (IsNoLater fault) (λ readable other bad. here.first other bad) (λ other bad. absurd (read.none other bad));
        }

    -- without such a fault the bytes are accepted, and the deck's numbers are theirs
    pub accepted_as : (deck : Deck) → deck.params ≡ params → deck.particles ≡ particles → IsAccepted bytes × IsDeckOf bytes deck
    accepted_as deck same_params same_particles =
        let accepted : AreAccepted (params_of top) (particles_of top) = rw (← read.params_are, ← read.particles_are, ← same_params, ← same_particles) deck.accepted in (
          standing (λ _. ⊥) (λ readable fault. agree (params_of top) (particles_of top) fault accepted) read.none,
          record { top = top; document = document; params = same_params ∙ read.params_are; particles = same_particles ∙ read.particles_are },
        )
