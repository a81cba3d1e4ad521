-- Workers that are made one by one, on the last seats that are left, and share the first tasks.
use Rattle.std.proofs.Common.{◌≡◌, ℕ, zero, suc, ◌+◌, List, [], ◌∷◌, ◌++◌, All, Some, drop, length, map, reverse, take, get_or, slice_get, refl, sym, ap, ap₂, ◌∙◌, subst, append_assoc, append-nil, arith}
use Rattle.std.proofs.lemmas.Option.{none-some, same_Some, slice_get-get_or, slice_get_within}
use Rattle.std.proofs.lemmas.List.{length_push, nil_from_length}
use Rattle.std.proofs.lemmas.List.Elements.{All-cons, All-nil}
use Rattle.lists.proofs.Elements.{written_back}
use Rattle.qs_core.specs.Shape.{Shape}
use Rattle.qs_table.specs.Seats.{TokenView}
use Rattle.qs_queues.specs.Seats as queue
use Rattle.qs_worker.specs.Crews.{IsNewCrew, firsts_below, lock_seats_of, queue_seats_of}
use Rattle.qs_worker.specs.Turns.{WorkerView}
use Rattle.qs_worker.specs.inner.Sharing.{AreShared}
use Rattle.qs_worker.proofs.Crews.{All-unmap, length-lock_seats}
use Rattle.qs_worker.proofs.Moving.{map-reverse}

-- the numbers of workers rise from the first
abbrev pub AreNumbered : {P : Type 0} → ℕ → List (WorkerView P) → Type 0
AreNumbered {P} first workers = (k : ℕ) (w : WorkerView P) → slice_get workers k ≡ Some w → w.number ≡ first + k

-- of all seats the first are left, and workers with nothing ready stand on the others
pub record AreMade {P : Type 0} (all : List (TokenView P)) (all_queue : List queue.QueueTokenView) (seats : List (TokenView P)) (queue_seats : List queue.QueueTokenView) (workers : List (WorkerView P)) : Type 0 where
  pub on_seats : all ≡ seats ++ lock_seats_of workers
  pub on_queue_seats : all_queue ≡ queue_seats ++ queue_seats_of workers
  pub numbered : AreNumbered (length seats) workers
  pub none_ready : All (λ (w : WorkerView P). w.ready ≡ []) workers

module _ {P : Type 0} where
  pub none_made : (all : List (TokenView P)) (all_queue : List queue.QueueTokenView) → AreMade all all_queue all all_queue []
  none_made all all_queue = record {
    on_seats = sym (append-nil all);
    on_queue_seats = sym (append-nil all_queue);
    numbered = λ k w e. absurd (none-some w e);
    none_ready = All-nil (λ (w : WorkerView P). w.ready ≡ []);
  }

  numbered_more : (first : ℕ) (worker : WorkerView P) (workers : List (WorkerView P)) → worker.number ≡ first → AreNumbered (first + 1) workers → (k : ℕ) (w : WorkerView P) → slice_get (worker ∷ workers) k ≡ Some w → w.number ≡ first + k
  numbered_more first worker workers is rest zero w e = let same : worker.number ≡ w.number = ap (λ (v : WorkerView P). v.number) (same_Some worker w e) in omega (arith, same, is)
  numbered_more first worker workers is rest (suc k) w e = let next = rest k w e in omega (arith, next)

  -- one more, on the last seats that are left
  pub one_made : (all : List (TokenView P)) (all_queue : List queue.QueueTokenView) (seats seats' : List (TokenView P)) (queue_seats queue_seats' : List queue.QueueTokenView) (workers : List (WorkerView P)) (worker : WorkerView P)
      → AreMade all all_queue seats queue_seats workers → seats ≡ seats' ++ worker.lock_seat ∷ [] → queue_seats ≡ queue_seats' ++ worker.queue_seat ∷ [] → worker.number ≡ length seats' → worker.ready ≡ []
      → AreMade all all_queue seats' queue_seats' (worker ∷ workers)
  one_made all all_queue seats seats' queue_seats queue_seats' workers worker made last last' number none = record {
    on_seats = made.on_seats ∙ ap (λ (ss : List (TokenView P)). ss ++ lock_seats_of workers) last ∙ append_assoc seats' (worker.lock_seat ∷ []) (lock_seats_of workers);
    on_queue_seats = made.on_queue_seats ∙ ap (λ (ss : List queue.QueueTokenView). ss ++ queue_seats_of workers) last' ∙ append_assoc queue_seats' (worker.queue_seat ∷ []) (queue_seats_of workers);
    numbered = numbered_more (length seats') worker workers number (subst (λ (n : ℕ). AreNumbered n workers) (ap length last ∙ length_push seats' worker.lock_seat) made.numbered);
    none_ready = All-cons (λ (w : WorkerView P). w.ready ≡ []) worker workers none made.none_ready;
  }

  -- where one can't be made the seats come back
  pub all_back : (all : List (TokenView P)) (all_queue : List queue.QueueTokenView) (seats seats' : List (TokenView P)) (queue_seats : List queue.QueueTokenView) (workers : List (WorkerView P)) (seat : TokenView P) (pushed back : List (TokenView P))
      → AreMade all all_queue seats queue_seats (reverse workers) → seats ≡ seats' ++ seat ∷ [] → pushed ≡ seats' ++ seat ∷ [] → back ≡ pushed ++ reverse (lock_seats_of workers) → back ≡ all
  all_back all all_queue seats seats' queue_seats workers seat pushed back made last more is =
      is
      ∙ ap (λ (ss : List (TokenView P)). ss ++ reverse (lock_seats_of workers)) (more ∙ sym last)
      ∙ ap (λ (ss : List (TokenView P)). seats ++ ss) (sym (map-reverse (λ (w : WorkerView P). w.lock_seat) workers))
      ∙ sym made.on_seats

  -- where none is left
  module _ (all : List (TokenView P)) (all_queue : List queue.QueueTokenView) (seats : List (TokenView P)) (queue_seats : List queue.QueueTokenView) (workers : List (WorkerView P)) (made : AreMade all all_queue seats queue_seats workers) (none : seats ≡ []) where
    pub made_on : lock_seats_of workers ≡ all
    made_on = sym (made.on_seats ∙ ap (λ (ss : List (TokenView P)). ss ++ lock_seats_of workers) none)

    pub made_on_queues : length queue_seats ≡ length seats → queue_seats_of workers ≡ all_queue
    made_on_queues as_many = sym (made.on_queue_seats ∙ ap (λ (ss : List queue.QueueTokenView). ss ++ queue_seats_of workers) (nil_from_length queue_seats (as_many ∙ ap length none)))

    pub made_planned : (plan : P) → All (λ s. s.plan ≡ Some plan) all → All (λ w. w.lock_seat.plan ≡ Some plan) workers
    made_planned plan planned = All-unmap (λ (s : TokenView P). s.plan ≡ Some plan) (λ (w : WorkerView P). w.lock_seat) workers (subst (All (λ (s : TokenView P). s.plan ≡ Some plan)) (sym made_on) planned)

-- what is no ready list stays where tasks are shared out
kept : {P Y : Type 0} (f : WorkerView P → Y) → ((w : WorkerView P) (ready : List ℕ) → f (record w { ready = ready }) ≡ f w) → (ready : ℕ → List ℕ) (before after : List (WorkerView P)) → length after ≡ length before
    → ((k : ℕ) (w : WorkerView P) → slice_get before k ≡ Some w → slice_get after k ≡ Some (record w { ready = ready k })) → map f after ≡ map f before
kept f same ready [] [] many each = refl
kept f same ready [] (y ∷ ys) many each = absurd (omega arith)
kept f same ready (x ∷ xs) [] many each = absurd (omega arith)
kept f same ready (x ∷ xs) (y ∷ ys) many each =
    ap₂ (λ v vs. v ∷ vs) (ap f (same_Some y (record x { ready = ready 0 }) (each 0 x refl)) ∙ same x (ready 0)) (kept f same (λ k. ready (suc k)) xs ys (omega arith) (λ k w e. each (suc k) w e))

module _ {P : Type 0} (shape : Shape) (before after : List (WorkerView P)) (shared : AreShared shape (length shape.tasks) before after) where
  abbrev share : ℕ → List ℕ
  share k = firsts_below shape (length before) k (length shape.tasks)

  -- a worker was there before
  stood : (k : ℕ) (w : WorkerView P) → slice_get after k ≡ Some w → (v : WorkerView P) × (slice_get before k ≡ Some v) × (w ≡ record v { ready = share k })
  stood k w e =
      let within = slice_get_within after k w e in
      let many = shared.as_many in
      let v = get_or before k w in
      let is = slice_get-get_or before k w (omega (arith, within, many)) in
      (v, is, same_Some w (record v { ready = share k }) (sym e ∙ shared.each k v is))

  -- a crew was made
  pub crew_made : (all : List (TokenView P)) (all_queue : List queue.QueueTokenView) (seats : List (TokenView P)) (queue_seats : List queue.QueueTokenView) → AreMade all all_queue seats queue_seats before → seats ≡ [] → length queue_seats ≡ length seats
      → IsNewCrew shape all all_queue after
  crew_made all all_queue seats queue_seats made none as_many =
      let on = made_on all all_queue seats queue_seats before made none in
      let on' = made_on_queues all all_queue seats queue_seats before made none as_many in
      let long = sym (length-lock_seats before) ∙ ap length on in
      let nothing : length seats ≡ 0 = ap length none in record {
        on_seats = kept (λ (w : WorkerView P). w.lock_seat) (λ w r. refl) share before after shared.as_many shared.each ∙ on;
        on_queue_seats = kept (λ (w : WorkerView P). w.queue_seat) (λ w r. refl) share before after shared.as_many shared.each ∙ on';
        numbered = λ k w e. let o = stood k w e in let is : w.number ≡ o.0.number = ap (λ (v : WorkerView P). v.number) o.2 in let number = made.numbered k o.0 o.1 in omega (arith, is, number, nothing);
        ready = λ k w e. ap (λ (v : WorkerView P). v.ready) (stood k w e).2 ∙ ap (λ (n : ℕ). firsts_below shape n k (length shape.tasks)) long;
      }

-- the workers in their list, after the tasks were shared out on all of it as a slice
pub shared_in : {P : Type 0} (shape : Shape) (count : ℕ) (before seen after : List (WorkerView P)) (n : ℕ) → seen ≡ before → length seen ≡ n → AreShared shape count seen after → AreShared shape count before (take n (after ++ drop (length after) before))
shared_in shape count before seen after n are many shared =
    let long = ap length are in
    subst (AreShared shape count before) (sym (written_back n before after (sym many ∙ long) (shared.as_many ∙ long))) (subst (λ ws. AreShared shape count ws after) are shared)
