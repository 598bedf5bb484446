-- Locks exclude.
use Rattle.std.proofs.Common.{◌≡◌, ◌<◌, ◌^◌, ℕ, zero, suc, Bool, true, false, cond, List, [], ◌∷◌, take, drop, length, Option, Some, None, refl, sym}
use Rattle.std.proofs.Common.{ap, subst, ◌∙◌, inl, inr, arith, eq-eqb}
use Rattle.std.specs.Prelude.{◌&&◌, ◌↔◌, slice_get}
use Rattle.std.specs.List.{list_any}
use Rattle.std.specs.Option.{option_map}
use Rattle.std.proofs.lemmas.Bool.{cases_Bool}
use Rattle.std.proofs.lemmas.Option.{none-some, same_Some, get_or_from_slice_get}
use Rattle.std.proofs.lemmas.Slice.Eq.{bytes_eq-Decides}
use Rattle.nz_base.specs.Key.{id_of, id_eq}
use Rattle.nz_base.specs.Log.{keys_of, HaveOwnIds}
use Rattle.nz_base.proofs.Names.{id_eq_self}
use Rattle.nz_base.specs.declared.key.Entry.{Entry}
use Rattle.nz_store.specs.declared.command.Answer.{Answer}
use Rattle.nz_store.specs.declared.command.Answer.TheVariants.{Done}
use Rattle.nz_store.specs.Entries.{Entries, empty, value_of}
use Rattle.nz_store.specs.Sequence.{apply_bytes, store_from, store_after, answer_after, reply}
use Rattle.nz_log.specs.Places.{place_of, IsPlace}
use Rattle.nz_log.proofs.Placing.{place_only}
use Rattle.nz_machine.specs.declared.journal.Executed.{Executed}
use Rattle.nz_machine.specs.declared.client_event.ClientEvent.{ClientEvent}
use Rattle.nz_machine.specs.declared.client_event.ClientEvent.TheVariants.{Sent, Accepted}
use Rattle.nz_machine.specs.journals.Journals.{executed_entries}
use Rattle.nz_machine.specs.runs.OneHistory.{Lin, Precedes, IsAnswered}
use Rattle.nz_machine.specs.rules.Replicas.{commands}
use Rattle.nz_machine.specs.runs.World.{Has}
use Rattle.nz_locks.specs.Clean.{IsClean, IsCleanEntry}
use Rattle.nz_locks.specs.Uses.{Acquire, Other, lock_key, holder_value, Use, use_of}
use Rattle.nz_locks.specs.Tenures.{is_done, done_use, is_acquire_of, acquires, releases, holds}
use Rattle.nz_locks.specs.Exclusive.{HoldsAt, HasOneHolder, IsReleasedBetween, IsAcquire, AreInTurn}
use Rattle.nz_locks.proofs.Effects.{Effect, took, gave, kept, effect}
use Rattle.nz_locks.proofs.Executing.{executed, executed_along, executed_is, at_place, in_prefix, taken_get}
use Rattle.nz_locks.proofs.Holders.{one_client, holder_is_value, small_holder, holds_since, passing}

-- ---- one holder

clean_taken : (H : List Entry) (place : ℕ) → IsClean H → IsClean (take place H)
clean_taken [] zero clean = tt
clean_taken [] (suc place) clean = tt
clean_taken (e ∷ H) zero clean = tt
clean_taken (e ∷ H) (suc place) clean = (clean.0, clean_taken H place clean.1)

along_is : (H : List Entry) (place client : ℕ) (name : List ℕ)
    → holds client name (executed_entries (take place H)) ≡ holds client name (executed_along empty (take place H))
along_is H place client name = ap (holds client name) (executed_is (take place H))

stored : (H : List Entry) → IsClean H → (place client : ℕ) (name : List ℕ) → client < 2 ^ 32
    → HoldsAt H place client name ↔ (value_of (store_after (commands (take place H))) (lock_key name) ≡ Some (holder_value client))
stored H clean place client name small =
    let h = holder_is_value client name small (take place H) (clean_taken H place clean) in
    let same = along_is H place client name in
    (λ e. h.0 (sym same ∙ e), λ e. same ∙ h.1 e)

pub one_holder : (H : List Entry) → IsClean H → HasOneHolder H
one_holder H clean = record {
  stored = stored H clean;
  one = λ place client other name h k.
      let es = take place H in
      let kept_clean = clean_taken H place clean in
      let small = small_holder client name empty es kept_clean (sym (along_is H place client name) ∙ h) in
      let few = small_holder other name empty es kept_clean (sym (along_is H place other name) ∙ k) in
      one_client client other small few
      (same_Some (holder_value client) (holder_value other)
      (sym ((stored H clean place client name small).0 h) ∙ (stored H clean place other name few).0 k));
}

-- ---- in turn

-- the entry at the place of its own id
record IsSomewhere (H : List Entry) (e : Entry) : Type 0 where
  place : ℕ
  within : place < length H
  there : slice_get H place ≡ Some e

somewhere : (H : List Entry) (e : Entry) → Has H e → IsSomewhere H e
somewhere [] e h = absurd h
somewhere (x ∷ H) e (inl same) = record { place = 0; within = omega arith; there = ap Some same }
somewhere (x ∷ H) e (inr h) =
    let k = somewhere H e h in
    let within = k.within in
    record { place = suc k.place; within = omega (arith, within); there = k.there }

own_place : (H : List Entry) (e : Entry) (i : ℕ) → HaveOwnIds (keys_of H) → Has H e → place_of H (id_of e.key) ≡ Some i → slice_get H i ≡ Some e
own_place H e i own h is =
    let k = somewhere H e h in
    let at : IsPlace H (id_of e.key) k.place = record {
      within = k.within;
      here = λ d.
          ap (λ (x : Entry). id_eq (id_of e.key) (id_of x.key)) (get_or_from_slice_get H k.place e d k.there) ∙ id_eq_self (id_of e.key);
    } in
    subst (λ (n : ℕ). slice_get H n ≡ Some e) (same_Some k.place i (sym (place_only H (id_of e.key) k.place own at) ∙ is)) k.there

clean_at : (H : List Entry) (i : ℕ) (e : Entry) → IsClean H → slice_get H i ≡ Some e → IsCleanEntry e
clean_at [] i e clean is = absurd (none-some e is)
clean_at (x ∷ H) zero e clean is = subst IsCleanEntry (same_Some x e is) clean.0
clean_at (x ∷ H) (suc i) e clean is = clean_at H i e clean.1 is

-- the answer to the entry at a place
get_command : (H : List Entry) (i : ℕ) (e : Entry) → slice_get H i ≡ Some e → slice_get (commands H) i ≡ Some e.command
get_command [] i e is = absurd (none-some e is)
get_command (x ∷ H) zero e is = ap (option_map (λ (y : Entry). y.command)) is
get_command (x ∷ H) (suc i) e is = get_command H i e is

take_commands : (H : List Entry) (i : ℕ) → take i (commands H) ≡ commands (take i H)
take_commands [] zero = refl
take_commands [] (suc i) = refl
take_commands (x ∷ H) zero = refl
take_commands (x ∷ H) (suc i) = ap (λ (l : List (List ℕ)). x.command ∷ l) (take_commands H i)

abbrev store_at : List Entry → ℕ → Entries
store_at H i = store_after (commands (take i H))

answered_at : (H : List Entry) (i : ℕ) (e : Entry) (a : Answer) → slice_get H i ≡ Some e → reply (commands H) i ≡ Some a
    → (executed (store_at H i) e).answer ≡ a
answered_at H i e a there is =
    same_Some (executed (store_at H i) e).answer a
    (sym (ap (option_map (answer_after (take i (commands H)))) (get_command H i e there)
    ∙ ap (λ (l : List (List ℕ)). Some (answer_after l e.command)) (take_commands H i)) ∙ is)

first_has : {X : Type 0} (xs : List X) (x y : X) → Precedes xs x y → Has xs x
first_has [] x y h = absurd h
first_has (z ∷ zs) x y (inl h) = inl h.0
first_has (z ∷ zs) x y (inr h) = inr (first_has zs x y h)

-- an acquire that is answered done
taking_use : (name : List ℕ) (x : Executed) → x.answer ≡ Done → use_of x.id.client x.command ≡ Acquire name → is_acquire_of name (done_use x) ≡ true
taking_use name x done is =
    ap (λ (a : Answer). is_acquire_of name (cond (is_done a) (use_of x.id.client x.command) Other)) done ∙ ap (is_acquire_of name) is
    ∙ (bytes_eq-Decides name name).1 refl

-- the key of a lock that is taken has no value before
free_before : (client : ℕ) (name : List ℕ) (u : Use) (before after : Option (List ℕ)) → is_acquire_of name u ≡ true
    → Effect client name u before after → before ≡ None
free_before client name u before after is (took a r from to) = from
free_before client name u before after is (gave a r from to) = absurd cc
free_before client name u before after is (kept a r same) = absurd cc

-- the entry at this place takes the lock of the name
record TakesAt (H : List Entry) (name : List ℕ) (e : Entry) (place : ℕ) : Type 0 where
  there : slice_get H place ≡ Some e
  done : (executed (store_at H place) e).answer ≡ Done
  takes : IsAcquire name e

takes_at : (H : List Entry) (name : List ℕ) (e : Entry) (place : ℕ) → HaveOwnIds (keys_of H) → Has H e → IsAcquire name e
    → place_of H (id_of e.key) ≡ Some place → IsAnswered H (id_of e.key) Done → TakesAt H name e place
takes_at H name e place own h takes is answered =
    let there = own_place H e place own h is in
    let same = same_Some answered.place place (sym answered.place_is ∙ is) in
    record {
      there = there;
      done = answered_at H place e Done there (ap (reply (commands H)) (sym same) ∙ answered.answered);
      takes = takes;
    }

-- the lock is free where it is taken
free_at : (H : List Entry) (name : List ℕ) (e : Entry) (place : ℕ) → IsClean H → TakesAt H name e place
    → value_of (store_at H place) (lock_key name) ≡ None
free_at H name e place clean t =
    let s = store_at H place in
    free_before e.key.client name (done_use (executed s e)) (value_of s (lock_key name)) (value_of (apply_bytes s e.command).0 (lock_key name))
    (taking_use name (executed s e) t.done t.takes)
    (effect e.key.client s name e.command (clean_at H place e clean t.there).command)

-- the one who took it holds it later, unless it gave it back
held_at : (H : List Entry) (name : List ℕ) (e : Entry) (from to : ℕ) → IsClean H → TakesAt H name e from → from < to
    → list_any (releases e.key.client name) (drop (suc from) (executed_along empty (take to H))) ≡ false
    → value_of (store_at H to) (lock_key name) ≡ Some (holder_value e.key.client)
held_at H name e from to clean t lt none =
    let es = take to H in
    let there = at_place empty es from e (taken_get H to from e t.there lt) in
    let x = executed (store_from empty (commands (take from es))) e in
    let same = same_Some x (executed (store_at H from) e) (sym ((in_prefix empty H to from x there).there) ∙ at_place empty H from e t.there) in
    let takes : acquires e.key.client name x ≡ true =
    ap (λ (b : Bool). b && is_acquire_of name (done_use x)) (eq-eqb e.key.client e.key.client refl)
    ∙ taking_use name x (ap (λ (y : Executed). y.answer) same ∙ t.done) t.takes in
    (holder_is_value e.key.client name (clean_at H from e clean t.there).client es (clean_taken H to clean)).0
    (holds_since e.key.client name (executed_along empty es) from x there takes none)

between : (H : List Entry) (name : List ℕ) (first second : Entry) (from to : ℕ) → IsClean H
    → TakesAt H name first from → TakesAt H name second to → from < to
    → place_of H (id_of first.key) ≡ Some from → place_of H (id_of second.key) ≡ Some to
    → IsReleasedBetween H first.key.client name (id_of first.key) (id_of second.key)
between H name first second from to clean f s lt is_from is_to =
    let X = executed_along empty (take to H) in
    let test = releases first.key.client name in
    elim (cases_Bool (list_any test (drop (suc from) X))) [
      | inl some ↦
          let k = passing test X (suc from) some in
          let at = in_prefix empty H to k.place k.x k.there in
          let after = k.after in
          record {
            from = from;
            to = to;
            place_of_first = is_from;
            place_of_second = is_to;
            place = k.place;
            after = omega (arith, after);
            before = at.below;
            release = k.x;
            there = ap (λ (l : List Executed). slice_get l k.place) (executed_is H) ∙ at.there;
            released = k.passes;
          }
      | inr none ↦
          absurd (none-some (holder_value first.key.client)
          (sym (free_at H name second to clean s) ∙ held_at H name first from to clean f lt none))
    ]

pub in_turn : (E : List ClientEvent) (H : List Entry) → Lin E H → IsClean H → AreInTurn E H
in_turn E H lin clean = record {
  released = λ name first second path is_first is_second takes retakes precedes answered.
      let a = id_of first.key in
      let b = id_of second.key in
      let order = lin.in_order a b Done path second.command precedes second is_second refl in
      let done = lin.answered a Done path (first_has E (Accepted a Done path) (Sent b second.command) precedes) in
      between H name first second order.first order.second clean
      (takes_at H name first order.first lin.once is_first takes order.place_of_first done)
      (takes_at H name second order.second lin.once is_second retakes order.place_of_second answered) order.in_order
      order.place_of_first order.place_of_second;
}
