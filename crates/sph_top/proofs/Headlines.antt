-- What a run of a deck's text answers, from what came of the job `run` on it.
use Rattle.std.proofs.Common.{◌≡◌, ℕ, List, [], Result, Ok, Err, refl, sym, ◌∙◌, ap, subst, inl, inr, Vec, Global}
use Rattle.std.specs.Prelude.{Option, Some}
use Rattle.std.specs.Io.KnownBytes.{Appends}
use Rattle.sph_num.specs.declared.particle.Params.{Params}
use Rattle.sph_deck.specs.declared.deck.Deck.{Deck}
use Rattle.sph_deck.specs.Document.{params_of, particles_of}
use Rattle.sph_deck.specs.Faults.{IsDeckOf}
use Rattle.sph_deck.proofs.FirstFaults.{IsDocument-unique, IsFirstFault-unique}
use Rattle.sph_run.specs.Stream.{deck_stream}
use Rattle.sph_run.specs.declared.form.Form.TheVariants.{Snapshots}
use Rattle.sph_run.proofs.Work.{outputs_ignore_work}
use Rattle.sph_top.specs.Answers.{IsAcceptedDeck, Change}
use Rattle.sph_top.specs.Headline.{AnswersText, Headline}
use Rattle.sph_top.specs.Output.{bytes_of}
use Rattle.sph_top.specs.declared.bytes.RunRefusal.{RunRefusal}
use Rattle.sph_top.specs.declared.bytes.RunRefusal.TheVariants.{DeckRefused, NoMemory}
use Rattle.sph_top.specs.declared.status.Status.TheVariants as status
use Rattle.sph_top.specs.inner.Steps.{Follows}
use Rattle.sph_words.specs.declared.job.Job.TheVariants.{Run}

-- two decks of one text have one stream
same_stream : (text : List ℕ) (deck other : Deck) → IsDeckOf text deck → IsDeckOf text other → deck_stream other ≡ deck_stream deck
same_stream text deck other a b =
    let top = IsDocument-unique text b.top a.top b.document a.document in
    let params : other.params ≡ deck.params = b.params ∙ ap params_of top ∙ sym a.params in
    outputs_ignore_work Snapshots deck other (record {
      particles = b.particles ∙ ap particles_of top ∙ sym a.particles;
      params = params ∙ ap (λ (p : Params). record deck.params { leaf = p.leaf; pairs = p.pairs; slack = p.slack }) (sym params);
    })

-- what each answer says of the text says what is answered to each text
pub Headline-answers : (text : List ℕ) (answer : Result (Vec ℕ Global) RunRefusal) → AnswersText text answer → Headline text answer
Headline-answers text (Ok stream) says = record {
  accepted = λ deck is. says.2 ∙ same_stream text deck says.0 is.numbers says.1.numbers;
  refused = λ fault first. absurd (says.1.accepted fault first.stands);
  answers = says;
}
Headline-answers text (Err (DeckRefused other)) says = record {
  accepted = λ deck is. absurd (is.accepted other says.stands);
  refused = λ fault first. inl (ap (λ f. Err (DeckRefused f)) (IsFirstFault-unique text other fault says first));
  answers = says;
}
Headline-answers text (Err NoMemory) says = record {
  accepted = λ deck is. refl;
  refused = λ fault first. inr refl;
  answers = tt;
}

-- what a sink holds that was empty is what was appended
held_is : (before after : Option (List ℕ)) (held bytes : List ℕ) → before ≡ Some [] → after ≡ Some held → Appends before after bytes → held ≡ bytes
held_is before after held bytes empty holds appended =
    subst (λ o. Appends o (Some held) bytes) empty (subst (λ o. Appends before o bytes) holds appended)

-- a run to its end into an empty sink
pub stream_held : (workers : ℕ) (text held : List ℕ) (out : Change) → out.before.bytes ≡ Some [] → out.after.bytes ≡ Some held
    → Follows (Run workers) text status.Done out → (deck : Deck) × IsAcceptedDeck text deck × (held ≡ deck_stream deck)
stream_held workers text held out empty holds (inl none) = let is = none.0 in cc
stream_held workers text held out empty holds (inr wrote) =
    let of = wrote.1 in
    (of.0, of.1, held_is out.before.bytes out.after.bytes held (bytes_of wrote.0) empty holds wrote.2.0 ∙ ap bytes_of of.2)
