-- The counts of a run's records, and what each record sends.
use Rattle.std.proofs.Common.{◌≡◌, ◌≢◌, ◌↔◌, ℕ, zero, suc, ◌+◌, ◌<◌, Bool, true, false, cond, List, [], ◌∷◌, ◌++◌}
use Rattle.std.proofs.Common.{length, refl, sym, ap, ◌∙◌, subst, arith}
use Rattle.std.specs.Prelude.{◌==◌, get_or, slice_set, replicate, reverse, IsTrue}
use Rattle.std.proofs.lemmas.Bool.{eqb-true}
use Rattle.std.proofs.lemmas.Bool.Decides.{nat_tests}
use Rattle.std.proofs.lemmas.List.{get_or-set_same, get_or-set_other, get_or_default, length-replicate, length-set, reverse-append}
use mathlib.Core.List.{IsPrefix}
use Rattle.nz_base.proofs.Names.{actor_eq_self, same_actor}
use Rattle.nz_base.specs.Actor.{actor_eq}
use Rattle.nz_base.specs.declared.actor.Actor.{Actor}
use Rattle.nz_base.specs.declared.actor.Actor.TheVariants.{Replica, Proxy, Client}
use Rattle.nz_machine.specs.declared.event.Record.{Record}
use Rattle.nz_machine.specs.rules.State.{Group}
use Rattle.nz_machine.specs.rules.Step.{node_step}
use Rattle.nz_machine.specs.runs.Steps.{AreSteps, of_actor}
use Rattle.nz_machine.proofs.runs.OwnStates.{own_state}
use Rattle.nz_fabric.specs.schedule.Calendars.{number_in_all}
use Rattle.nz_fabric.specs.threads.Records.{ActorSteps, steps_of, AreCounts}
use Rattle.nz_fabric.specs.threads.Steps.{sends_after}
use Rattle.nz_fabric.proofs.several_threads.Prefixes.{same_part, same_parts}

-- ---- each actor has a number of its own

own_number : (a b : Actor) → number_in_all a ≡ number_in_all b → a ≡ b
own_number (Replica n) (Replica m) e = ap Replica (omega (arith, e))
own_number (Replica n) (Proxy m) e = absurd (omega (arith, e))
own_number (Replica n) (Client m) e = absurd (omega (arith, e))
own_number (Proxy n) (Replica m) e = absurd (omega (arith, e))
own_number (Proxy n) (Proxy m) e = ap Proxy (omega (arith, e))
own_number (Proxy n) (Client m) e = absurd (omega (arith, e))
own_number (Client n) (Replica m) e = absurd (omega (arith, e))
own_number (Client n) (Proxy m) e = absurd (omega (arith, e))
own_number (Client n) (Client m) e = ap Client (omega (arith, e))

other_number : (a b : Actor) → actor_eq a b ≡ false → number_in_all b ≢ number_in_all a
other_number a b e same = let yes : actor_eq a b ≡ true = ap (actor_eq a) (own_number b a same) ∙ actor_eq_self a in cc

-- ---- no record yet

none_at : (n i : ℕ) → get_or {A = ℕ} (replicate n 0) i 0 ≡ 0
none_at zero i = refl
none_at (suc n) zero = refl
none_at (suc n) (suc i) = none_at n i

pub counts_none : (counts : List ℕ) → counts ≡ replicate 768 0 → AreCounts [] counts
counts_none counts e =
    record {
      many = ap length e ∙ length-replicate {A = ℕ} 768 0;
      counted = λ a. ap (λ (ns : List ℕ). get_or ns (number_in_all a) 0) e ∙ none_at 768 (number_in_all a);
    }

-- ---- one record more

count_by : (J : List Record) (counts : List ℕ) (r : Record) (n : ℕ) (a : Actor) (own : Bool) → AreCounts J counts
    → number_in_all r.actor < 768 → n ≡ length (of_actor r.actor J) + 1 → actor_eq r.actor a ≡ own
    → get_or (slice_set counts (number_in_all r.actor) n) (number_in_all a) 0 ≡ length (cond own (r ∷ of_actor a J) (of_actor a J))
count_by J counts r n a true h lt more e =
    let many = h.many in
    let same : r.actor ≡ a = same_actor r.actor a e in
    ap (λ (b : Actor). get_or (slice_set counts (number_in_all r.actor) n) (number_in_all b) 0) (sym same)
    ∙ get_or-set_same counts (number_in_all r.actor) n 0 (omega (arith, lt, many))
    ∙ (let own = ap (λ (b : Actor). length (of_actor b J)) same in omega (arith, more, own))
count_by J counts r n a false h lt more e =
    get_or-set_other counts (number_in_all r.actor) (number_in_all a) n 0 (other_number r.actor a e) ∙ h.counted a

-- what is read at an actor's place
pub count_is : (J : List Record) (counts : List ℕ) (a : Actor) (place count : ℕ) → AreCounts J counts
    → place ≡ number_in_all a → place < 768 → count ≡ get_or counts place count → count ≡ length (of_actor a J)
count_is J counts a place count h at lt read =
    let many = h.many in
    read ∙ get_or_default counts place count 0 (omega (arith, lt, many)) ∙ ap (λ (k : ℕ). get_or counts k 0) at ∙ h.counted a

-- who has seen as many of an actor's records as there are has seen all of them
pub all_seen : (records seen : List Record) (a b : Actor) → IsPrefix seen records → b ≡ a
    → length (of_actor a (reverse seen)) ≡ length (of_actor b (reverse records)) → steps_of a (reverse seen) ≡ steps_of b (reverse records)
all_seen records seen a b prefix same many =
    ap (λ (own : List Record). let s : ActorSteps = record { actor = a; steps = own } in s)
    (same_part (λ (r : Record). actor_eq r.actor a) seen records prefix
    (many ∙ ap (λ (x : Actor). length (of_actor x (reverse records))) same))
    ∙ ap (λ (x : Actor). steps_of x (reverse records)) (sym same)

-- of two prefixes of one chronicle, the one has all of an actor's records in the other exactly if it has as many
pub all_seen_if : (records seen whole : List Record) (a : Actor) (own : ActorSteps) (known count : ℕ) → IsPrefix records whole → IsPrefix seen whole
    → steps_of a (reverse seen) ≡ own → known ≡ length (of_actor a (reverse seen)) → count ≡ length (of_actor a (reverse records))
    → IsTrue (known == count) ↔ (own ≡ steps_of own.actor (reverse records))
all_seen_if records seen whole a own known count p q is knows counted =
    let same : a ≡ own.actor = ap (λ (x : ActorSteps). x.actor) is in (
      (λ e.
          let many : known ≡ count = eqb-true known count e in
          sym is
          ∙ ap (λ (rs : List Record). let s : ActorSteps = record { actor = a; steps = rs } in s)
          (same_parts (λ (r : Record). actor_eq r.actor a) seen records whole q p (sym knows ∙ many ∙ counted))
          ∙ ap (λ (x : Actor). steps_of x (reverse records)) same),
      (λ e.
          let all : steps_of a (reverse seen) ≡ steps_of a (reverse records) = is ∙ e ∙ ap (λ (x : Actor). steps_of x (reverse records)) (sym same) in
          let many : known ≡ count = knows ∙ ap (λ (x : ActorSteps). length x.steps) all ∙ sym counted in
          grind (arith, nat_tests)),
    )

pub own_pushed : (records : List Record) (r : Record) (a : Actor) → r.actor ≡ a
    → of_actor a (reverse (records ++ r ∷ [])) ≡ r ∷ of_actor a (reverse records)
own_pushed records r a same =
    ap (of_actor a) (reverse-append records (r ∷ []))
    ∙ ap (λ (b : Bool). cond b (r ∷ of_actor a (reverse records)) (of_actor a (reverse records)))
    (ap (λ (x : Actor). actor_eq x a) same ∙ actor_eq_self a)

pub counts_pushed : (J : List Record) (counts : List ℕ) (i n : ℕ) (r : Record) → AreCounts J counts
    → i ≡ number_in_all r.actor → i < 768 → n ≡ length (of_actor r.actor J) + 1 → AreCounts (r ∷ J) (slice_set counts i n)
counts_pushed J counts i n r h at lt more =
    subst (λ (k : ℕ). AreCounts (r ∷ J) (slice_set counts k n)) (sym at)
    (record {
      many = length-set counts (number_in_all r.actor) n ∙ h.many;
      counted = λ a. count_by J counts r n a (actor_eq r.actor a) h (omega (arith, at, lt)) more refl;
    })

pub steps_pushed : (g : Group) (J : List Record) (r : Record) → AreSteps g J
    → r.sends ≡ sends_after g (steps_of r.actor J) r.event → AreSteps g (r ∷ J)
steps_pushed g J r all sent = (sent ∙ ap (λ (s : _). (node_step g r.actor s r.event).1) (own_state g r.actor J), all)
