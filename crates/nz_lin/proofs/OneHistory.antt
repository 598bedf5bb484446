-- Accepted prefixes are paired, so the accepted answers are those of one store that executes the history.
use Rattle.std.proofs.Common.{◌≡◌, ℕ, ◌≤◌, List, length, Some, sym, subst, inl, inr, arith}
use Rattle.nz_base.specs.declared.key.Id.{Id}
use Rattle.nz_base.specs.declared.key.Entry.{Entry}
use Rattle.nz_base.specs.Key.{id_of}
use Rattle.nz_store.specs.declared.command.Answer.{Answer}
use Rattle.nz_log.specs.Places.{place_of}
use Rattle.nz_machine.specs.declared.event.Record.{Record}
use Rattle.nz_machine.specs.rules.State.{Group}
use Rattle.nz_machine.specs.runs.World.{Has, World}
use Rattle.nz_machine.specs.runs.Events.{events}
use Rattle.nz_machine.specs.runs.History.{history}
use Rattle.nz_machine.specs.runs.OneHistory.{ComesBefore, IsAnswered, Lin, IsAccepted, ArePaired, NoCollision}
use Rattle.nz_base.specs.Prefixes.{IsPrefix}
use Rattle.nz_base.proofs.Prefixes.{prefix_none, shorter_comparable}
use Rattle.nz_laws_commit.proofs.Whole.{prefixes}
use Rattle.nz_machine.proofs.lists.LogPlaces.{place_kept, place_within, has_place}
use Rattle.nz_laws_commit.proofs.Places.{answered_more, absent_place}
use Rattle.nz_lin.proofs.Histories.{IsCovered, IsBefore, IsHistory, history_is, history_sent, history_own}

-- an accepted prefix is one of the history
in_history : (g : Group) (J : List Record) → ArePaired g J → IsHistory g J → (P : List Entry) → IsAccepted g P J → length P ≤ length (history g J)
    → IsPrefix P (history g J)
in_history g J pairs h P accepted short = elim h.ends [
  | inl none ↦ shorter_comparable P (history g J) (inr (subst (λ (H : List Entry). IsPrefix H P) (sym none) (prefix_none P))) short
  | inr whole ↦ shorter_comparable P (history g J) (pairs.each P (history g J) accepted whole) short
]

answered : (g : Group) (J : List Record) → ArePaired g J → IsHistory g J → (id : Id) (a : Answer) → IsCovered g J id a → IsAnswered (history g J) id a
answered g J pairs h id a k = answered_more k.prefix (history g J) id a (in_history g J pairs h k.prefix k.accepted k.short) k.given.from.answered

ordered : (g : Group) (J : List Record) → ArePaired g J → IsHistory g J → (a b : Id) (answer : Answer) → IsBefore g J a answer b → (e : Entry)
    → Has (history g J) e → id_of e.key ≡ b → ComesBefore (history g J) a b
ordered g J pairs h a b answer k e has same =
    let P = k.covered.prefix in
    let part : IsPrefix P (history g J) = in_history g J pairs h P k.covered.accepted k.covered.short in
    let first = k.covered.given.from.answered in
    let within = place_within P a first.place first.place_is in
    let second = subst (λ (i : Id). (n : ℕ) × (place_of (history g J) i ≡ Some n)) same (has_place (history g J) e has) in
    let after = absent_place b P (history g J) second.0 part k.absent second.1 in
    record {
      first = first.place;
      second = second.0;
      place_of_first = place_kept P (history g J) a first.place part first.place_is;
      place_of_second = second.1;
      in_order = omega (arith, within, after);
    }

pub history_of_pairs : (g : Group) (J : List Record) → World g J → ArePaired g J → Lin (events g J) (history g J)
history_of_pairs g J w pairs =
    let h = history_is g J w in
    record {
      once = history_own g J w;
      asked = history_sent g J w;
      answered = λ id a path accepted. answered g J pairs h id a (h.covers id a path accepted);
      in_order = λ a b answer path command before. ordered g J pairs h a b answer (h.in_order a answer path b command before);
    }

pub one_history : (g : Group) (J : List Record) → World g J → NoCollision g J → Lin (events g J) (history g J)
one_history g J w apart = history_of_pairs g J w (prefixes g J w apart).paired
