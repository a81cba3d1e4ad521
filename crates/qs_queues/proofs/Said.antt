-- What a push and a scan say, from what was done to the heap that was held.
use Rattle.std.proofs.Common.{ℕ, List, Option, refl, ap}
use Rattle.qs_heap.specs.declared.entry.Entry.{Entry}
use Rattle.qs_queues.specs.declared.answers.Push.{Push}
use Rattle.qs_queues.specs.declared.answers.Push.TheVariants as push
use Rattle.qs_queues.specs.declared.answers.Scan.{Scan}
use Rattle.qs_queues.specs.declared.answers.Scan.TheVariants as scan
use Rattle.qs_queues.specs.Calls.{Noted, SaysPush, SaysScan, SaysTries, hold_notes}
use Rattle.qs_queues.specs.inner.Holds.{Looks, Puts, TriesHeap}
use Rattle.qs_queues.specs.inner.Plays.{Mine}
use Rattle.qs_queues.proofs.Holding.{Holds}

pub pushed : (room queue : ℕ) (e : Entry) (answer : Push) (m0 m3 : Mine) (found left : List Entry) → Holds queue m0 m3 found left → Puts room e found answer left → Noted (SaysPush room queue e answer) m0.0 m3.0
pushed room queue e push.In m0 m3 found left h p = record {
  further = hold_notes queue h.number found left;
  is = h.view;
  said = record { number = h.number; found = found; left = left; notes_are = refl; had_room = p.0; added = p.1 };
}
pushed room queue e (push.Held seen) m0 m3 found left h p = absurd p
pushed room queue e push.Full m0 m3 found left h p = record {
  further = hold_notes queue h.number found left;
  is = h.view;
  said = record { number = h.number; found = found; notes_are = ap (hold_notes queue h.number found) p.1; full = p.0 };
}

pub scanned : (refused : ℕ → Type 0) (taken : Option ℕ) (queue : ℕ) (answer : Scan) (m0 m3 : Mine) (found left : List Entry) → Holds queue m0 m3 found left → Looks refused taken found answer left
    → Noted (SaysScan refused taken queue answer) m0.0 m3.0
scanned refused taken queue (scan.Got task) m0 m3 found left h l = record {
  further = hold_notes queue h.number found left;
  is = h.view;
  said = (l.0, record { number = h.number; found = found; left = left; notes_are = refl; taken = l.1 });
}
scanned refused taken queue (scan.Held seen) m0 m3 found left h l = absurd l
scanned refused taken queue scan.Empty m0 m3 found left h l = record {
  further = hold_notes queue h.number found left;
  is = h.view;
  said = (l.0, record { number = h.number; notes_are = ap (λ (x : List Entry × List Entry). hold_notes queue h.number x.0 x.1) (λ i. (l.1 i, l.2 i)) });
}
scanned refused taken queue scan.AllBusy m0 m3 found left h l = record {
  further = hold_notes queue h.number found left;
  is = h.view;
  said = (l.0, record { number = h.number; found = found; notes_are = ap (hold_notes queue h.number found) l.2; some = l.1; refusals = l.3 });
}

-- and how often a scan tried
pub tried : (refused : ℕ → Type 0) (taken : Option ℕ) (queue old new : ℕ) (answer : Scan) (m0 m3 : Mine) (found left : List Entry) → Holds queue m0 m3 found left → Looks refused taken found answer left
    → TriesHeap refused found answer old new → Noted (SaysTries refused queue answer old new) m0.0 m3.0
tried refused taken queue old new (scan.Got task) m0 m3 found left h l t = record {
  further = hold_notes queue h.number found left;
  is = h.view;
  said = record { number = h.number; found = found; left = left; notes_are = refl; tried = t };
}
tried refused taken queue old new (scan.Held seen) m0 m3 found left h l t = absurd t
tried refused taken queue old new scan.Empty m0 m3 found left h l t =
    let said = scanned refused taken queue scan.Empty m0 m3 found left h l in
    record { further = said.further; is = said.is; said = (t, said.said.1) }
tried refused taken queue old new scan.AllBusy m0 m3 found left h l t = record {
  further = hold_notes queue h.number found left;
  is = h.view;
  said = record { number = h.number; found = found; left = left; notes_are = refl; tried = t };
}
