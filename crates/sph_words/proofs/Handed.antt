-- Words that are handed to `clap` have texts, and a parse of them gives these.
use Rattle.std.proofs.Common.{◌≡◌, ◌∙◌, ◌+◌, ◌&&◌, suc, Bool, true, false, not, List, [], ◌∷◌, ◌++◌, Option, Some, None, refl, sym, subst, arith, codes, length, take, drop, cond, option_map, true≢false}
use Rattle.std.specs.Prelude.{option_and_then}
use Rattle.std.proofs.lemmas.Bool.{leb-true, not-true}
use Rattle.std.specs.Option.{option_map_or}
use Rattle.std.specs.Str.{bytes_eq}
use Rattle.std.specs.List.{list_all, position_or_len}
use Rattle.std.proofs.lemmas.List.{take-append-drop}
use Rattle.std.proofs.lemmas.Slice.Eq.{bytes_eq-Decides}
use Rattle.clap.proofs.WalkLemmas.{both}
use Rattle.clap.specs.Walk.{Text, Walk}
use Rattle.sph_words.specs.Texts.{Texts, begins_with_hyphen, cut_of, text_behind, texts_of, texts_with, workers_text}
use Rattle.sph_words.specs.inner.Asked.{is_few, is_handed}
use Rattle.sph_words.proofs.Walked.{Ends, Gives, Reaches, Stands, awaiting, gives, plain_word, stands_first, stands_second, stands_third, stays, steps_first, steps_job, steps_on, steps_second, taking, with_value}

abbrev IsPlain : Text → Type 0
IsPlain word = begins_with_hyphen word ≡ false

-- what stands before the cut begins with no hyphen
plain_before : (words : List Text) → list_all (λ w. not (begins_with_hyphen w)) (take (position_or_len begins_with_hyphen words) words) ≡ true
plain_before [] = refl
plain_before (word ∷ words) = go (begins_with_hyphen word) refl (plain_before words)
  where
    go : (b : Bool) → begins_with_hyphen word ≡ b → list_all (λ w. not (begins_with_hyphen w)) (take (position_or_len begins_with_hyphen words) words) ≡ true
        → list_all (λ w. not (begins_with_hyphen w)) (take (cond (not b) (1 + position_or_len begins_with_hyphen words) 0) (word ∷ words)) ≡ true
    go true is rest = refl
    go false is rest =
        let one : 1 + position_or_len begins_with_hyphen words ≡ suc (position_or_len begins_with_hyphen words) = omega arith in
        rw (one, is) rest

-- the word from its beginning and what stands behind it
behind : (beginning word text : Text) → text_behind beginning word ≡ Some text → word ≡ beginning ++ text
behind beginning word text is = go (bytes_eq beginning (take (length beginning) word)) refl is
  where
    go : (b : Bool) → bytes_eq beginning (take (length beginning) word) ≡ b → cond b (Some (drop (length beginning) word)) None ≡ Some text → word ≡ beginning ++ text
    go true same found =
        let begins : beginning ≡ take (length beginning) word = (bytes_eq-Decides beginning (take (length beginning) word)).0 same in
        let rest : drop (length beginning) word ≡ text = cc in
        sym (take-append-drop (length beginning) word) ∙ (λ i. sym begins i ++ rest i)
    go false same found = cc

-- ---- the option

-- the walk goes on over the words from the cut on
abbrev GoesOn : Walk → (Option Text → Texts) → List Text → Option Text → Type 0
GoesOn at texts option workers = (end : Walk) × Reaches at option end × Ends end (texts workers)

module _ (at : Walk) (texts : Option Text → Texts) (stands : Stands at texts) where
  by_value : (word : Text) (workers : Option Text) → option_map Some (text_behind (codes "--workers=") word) ≡ Some workers → GoesOn at texts (word ∷ []) workers
  by_value word workers is = go (text_behind (codes "--workers=") word) refl is
    where
      go : (found : Option Text) → text_behind (codes "--workers=") word ≡ found → option_map Some found ≡ Some workers → GoesOn at texts (word ∷ []) workers
      go None none mapped = cc
      go (Some text) some mapped =
          let word_is : word ≡ codes "--workers=" ++ text = behind (codes "--workers=") word text some in
          let workers_is : workers ≡ Some text = cc in
          rw (word_is, workers_is) (with_value at text, steps_on _ _ _ _ _ (stands.steps_value text) (stays _), stands.value text)

  by_text : (word text : Text) (workers : Option Text) → cond (bytes_eq word (codes "--workers")) (Some (Some text)) None ≡ Some workers
      → option_map_or begins_with_hyphen workers false ≡ false → GoesOn at texts (word ∷ text ∷ []) workers
  by_text word text workers is plain = go (bytes_eq word (codes "--workers")) refl is
    where
      go : (b : Bool) → bytes_eq word (codes "--workers") ≡ b → cond b (Some (Some text)) None ≡ Some workers → GoesOn at texts (word ∷ text ∷ []) workers
      go false other found = cc
      go true same found =
          let word_is : word ≡ codes "--workers" = (bytes_eq-Decides word (codes "--workers")).0 same in
          let workers_is : workers ≡ Some text = cc in
          let text_plain : begins_with_hyphen text ≡ false = subst (λ o. option_map_or begins_with_hyphen o false ≡ false) workers_is plain in
          rw (word_is, workers_is) (
            taking (awaiting at) text,
            steps_on _ _ _ _ _ stands.steps_option (steps_on _ _ _ _ _ (stands.steps_text text (plain_word text text_plain)) (stays _)),
            stands.text text,
          )

  goes_on : (option : List Text) (workers : Option Text) → workers_text option ≡ Some workers → option_map_or begins_with_hyphen workers false ≡ false → GoesOn at texts option workers
  goes_on [] workers is plain =
      let none : workers ≡ None = cc in
      rw none (at, stays at, stands.bare)
  goes_on (word ∷ []) workers is plain = by_value word workers is
  goes_on (word ∷ text ∷ []) workers is plain = by_text word text workers is plain
  goes_on (word ∷ text ∷ more ∷ rest) workers is plain = cc

-- ---- the words before it

abbrev AllPlain : List Text → Type 0
AllPlain words = list_all (λ w. not (begins_with_hyphen w)) words ≡ true

plain_and : (a b : Bool) → (not a && b) ≡ true → (a ≡ false) × (b ≡ true)
plain_and false b e = (refl, e)
plain_and true b e = absurd (true≢false (sym e))

parse_gives : (name : Text) (before option : List Text) (workers : Option Text) (texts : Texts) → AllPlain before → workers_text option ≡ Some workers
    → option_map_or begins_with_hyphen workers false ≡ false → texts_with workers before ≡ Some texts → Gives (name ∷ (before ++ option)) texts
parse_gives name [] option workers texts plain is text_plain with_is = cc
parse_gives name (job ∷ []) option workers texts plain is text_plain with_is =
    let texts_is : texts ≡ record { job = job; first = None; second = None; workers = workers } = cc in
    let on = goes_on _ _ (stands_first job) option workers is text_plain in
    let one = plain_and _ _ plain in
    rw texts_is (gives name _ on.0 _ (steps_on _ _ _ _ _ (steps_job job (plain_word job one.0)) on.1) on.2)
parse_gives name (job ∷ first ∷ []) option workers texts plain is text_plain with_is =
    let texts_is : texts ≡ record { job = job; first = Some first; second = None; workers = workers } = cc in
    let on = goes_on _ _ (stands_second job first) option workers is text_plain in
    let one = plain_and _ _ plain in
    let two = plain_and _ _ one.1 in
    rw texts_is (gives name _ on.0 _ (steps_on _ _ _ _ _ (steps_job job (plain_word job one.0))
    (steps_on _ _ _ _ _ (steps_first job first (plain_word first two.0)) on.1)) on.2)
parse_gives name (job ∷ first ∷ second ∷ []) option workers texts plain is text_plain with_is =
    let texts_is : texts ≡ record { job = job; first = Some first; second = Some second; workers = workers } = cc in
    let on = goes_on _ _ (stands_third job first second) option workers is text_plain in
    let one = plain_and _ _ plain in
    let two = plain_and _ _ one.1 in
    let three = plain_and _ _ two.1 in
    rw texts_is (gives name _ on.0 _ (steps_on _ _ _ _ _ (steps_job job (plain_word job one.0))
    (steps_on _ _ _ _ _ (steps_first job first (plain_word first two.0))
    (steps_on _ _ _ _ _ (steps_second job first second (plain_word second three.0)) on.1))) on.2)
parse_gives name (job ∷ first ∷ second ∷ more ∷ rest) option workers texts plain is text_plain with_is = cc

-- ---- all words

-- the texts of the words, which a parse of them gives
abbrev pub HasTexts : List Text → Type 0
HasTexts words = (texts : Texts) × (texts_of words ≡ Some texts) × Gives words texts

-- of the words cut at the option
abbrev HasParts : Text → List Text → List Text → Option (Option Text) → Type 0
HasParts name before option found =
    (texts : Texts) × (option_and_then (λ workers. texts_with workers before) found ≡ Some texts) × Gives (name ∷ (before ++ option)) texts

-- one to three words have texts
few_have : (workers : Option Text) (before : List Text) → is_few before ≡ true → (texts : Texts) × (texts_with workers before ≡ Some texts)
few_have workers [] few = absurd (true≢false (sym few))
few_have workers (job ∷ []) few = (record { job = job; first = None; second = None; workers = workers }, refl)
few_have workers (job ∷ first ∷ []) few = (record { job = job; first = Some first; second = None; workers = workers }, refl)
few_have workers (job ∷ first ∷ second ∷ []) few = (record { job = job; first = Some first; second = Some second; workers = workers }, refl)
few_have workers (job ∷ first ∷ second ∷ more ∷ rest) few =
    absurd (omega (arith, leb-true (length (job ∷ first ∷ second ∷ more ∷ rest)) 3 (both _ _ few).1))

parts_have : (name : Text) (before option : List Text) → AllPlain before → is_few before ≡ true → (found : Option (Option Text)) → workers_text option ≡ found
    → option_map_or (λ text. not (option_map_or begins_with_hyphen text false)) found false ≡ true → HasParts name before option found
parts_have name before option plain few None found text_plain = absurd (true≢false (sym text_plain))
parts_have name before option plain few (Some workers) found text_plain =
    let has = few_have workers before few in
    (has.0, has.1, parse_gives name before option workers has.0 plain found (not-true _ text_plain) has.1)

pub handed : (words : List Text) → is_handed words ≡ true → HasTexts words
handed [] is = absurd (true≢false (sym is))
handed (name ∷ rest) is =
    let cut = cut_of (name ∷ rest) in
    let parts = both _ _ is in
    let has = parts_have name (take cut rest) (drop cut rest) (plain_before rest) parts.0 (workers_text (drop cut rest)) refl parts.1 in
    (has.0, has.1, subst (λ words. Gives (name ∷ words) has.0) (take-append-drop cut rest) has.2)
