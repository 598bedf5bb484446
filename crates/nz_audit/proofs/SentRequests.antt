-- A log has at most as many entries as requests were sent.
use Rattle.std.proofs.Common.{◌≡◌, ℕ, suc, ◌+◌, ◌≤◌, Bool, true, not, List, [], ◌∷◌, ◌++◌, length, Option, Some, None, refl, ap, subst}
use Rattle.std.proofs.Common.{inl, inr, arith, length-take}
use Rattle.std.proofs.lemmas.Bool.{cases_Bool}
use Rattle.std.specs.List.{AllByRecursion, filter}
use Rattle.nz_base.specs.declared.actor.Actor.TheVariants.{Replica}
use Rattle.nz_base.specs.declared.key.Id.{Id}
use Rattle.nz_base.specs.declared.key.Entry.{Entry}
use Rattle.nz_base.specs.Key.{id_eq, id_of}
use Rattle.nz_base.specs.Log.{keys_of, HaveOwnIds}
use Rattle.nz_base.proofs.Booleans.{true_and_false}
use Rattle.nz_base.proofs.Logs.{own_in_prefix, own_filter, keys_append}
use Rattle.nz_base.proofs.Names.{id_eq_self}
use Rattle.nz_log.specs.Places.{place_of}
use Rattle.nz_machine.specs.declared.event.Record.{Record}
use Rattle.nz_machine.specs.rules.State.{Group}
use Rattle.nz_machine.specs.runs.World.{state_after, World}
use Rattle.nz_machine.specs.runs.Events as events
use Rattle.nz_machine.specs.declared.client_event.ClientEvent.{ClientEvent}
use Rattle.nz_machine.specs.declared.client_event.ClientEvent.TheVariants.{Sent, Accepted}
use Rattle.nz_machine.specs.runs.Events.{client_events}
use Rattle.nz_machine.specs.runs.History.{log_at, cut_at, cut_after}
use Rattle.nz_machine.proofs.facts.IdCounts.{times, own_times}
use Rattle.nz_laws_commit.proofs.FactsStay.{facts_stay}
use Rattle.nz_laws_commit.proofs.OwnCommands.{WasSent, entries_sent}
use Rattle.nz_audit.specs.Prefixes.{requests_sent}

-- ---- entries of different ids, each sent

abbrev other : Id → Entry → Bool
other i e = not (id_eq i (id_of e.key))

with_id : (i : Id) (es : List Entry) → length es ≡ times i es + length (filter (other i) es)
with_id i [] = refl
with_id i (e ∷ es) =
    let rest = with_id i es in
    elim (cases_Bool (id_eq i (id_of e.key))) [ inl here ↦ rw here (omega (arith, rest)) | inr away ↦ rw away (omega (arith, rest)) ]

same_ids : (i j : Id) (x y : List ℕ) → Sent i x ≡ Sent j y → i ≡ j
same_ids i j x y e = cc

-- without the entry of a request that was sent
sent_without : (i : Id) (command : List ℕ) (E : List ClientEvent) (es : List Entry) → AllByRecursion (WasSent (Sent i command ∷ E)) es
    → AllByRecursion (WasSent E) (filter (other i) es)
sent_without i command E [] all = tt
sent_without i command E (e ∷ es) all =
    elim (cases_Bool (id_eq i (id_of e.key))) [
      | inl here ↦ rw here (sent_without i command E es all.1)
      | inr away ↦ rw away (
        elim (all.0) [
          | inl same ↦ absurd (true_and_false (id_eq i (id_of e.key))
              (subst (λ (j : Id). id_eq i j ≡ true) (same_ids i (id_of e.key) command e.command same) (id_eq_self i)) away)
          | inr sent ↦ sent
        ],
        sent_without i command E es all.1,
      )
    ]

not_accepted : (i j : Id) (x : List ℕ) (e : ClientEvent) → e ≡ Sent j x → requests_sent (e ∷ []) ≡ 0 → ⊥
not_accepted i j x e is none = let one : requests_sent (e ∷ []) ≡ 1 = ap (λ (y : ClientEvent). requests_sent (y ∷ [])) is in omega (arith, none, one)

sent_besides : (x : ClientEvent) (E : List ClientEvent) → requests_sent (x ∷ []) ≡ 0 → (es : List Entry) → AllByRecursion (WasSent (x ∷ E)) es
    → AllByRecursion (WasSent E) es
sent_besides x E none [] all = tt
sent_besides x E none (e ∷ es) all =
    (elim (all.0) [ inl same ↦ absurd (not_accepted (id_of e.key) (id_of e.key) e.command x same none) | inr sent ↦ sent ], sent_besides x E none es all.1)

pub few_sent : (E : List ClientEvent) (es : List Entry) → HaveOwnIds (keys_of es) → AllByRecursion (WasSent E) es → length es ≤ requests_sent E
few_sent [] [] own all = omega arith
few_sent [] (e ∷ es) own all = absurd (all.0)
few_sent (Sent i command ∷ E) es own all =
    let once = own_times i es own in
    let parts = with_id i es in
    let rest = few_sent E (filter (other i) es) (own_filter (other i) es own) (sent_without i command E es all) in
    omega (arith, once, parts, rest)
few_sent (Accepted i answer path ∷ E) es own all = few_sent E es own (sent_besides (Accepted i answer path) E refl es all)

-- ---- logs of a run

log_few : (g : Group) (K : List Record) (m : ℕ) → World g K → length (log_at g (Replica m) K) ≤ requests_sent (events.events g K)
log_few g K m w =
    let s = state_after g (Replica m) K in
    let own : HaveOwnIds (keys_of s.log.entries) =
    own_in_prefix (keys_of s.log.entries) (keys_of (s.early ++ s.late))
    (subst HaveOwnIds (keys_append s.log.entries (s.early ++ s.late)) (facts_stay g K m w).entries.arranged.own_ids) in
    few_sent (events.events g K) s.log.entries own (entries_sent g K w m).log

pub sent_more : (E F : List ClientEvent) → requests_sent (E ++ F) ≡ requests_sent E + requests_sent F
sent_more [] F = omega arith
sent_more (Sent i command ∷ E) F = let rest = sent_more E F in omega (arith, rest)
sent_more (Accepted i answer path ∷ E) F = sent_more E F

sent_later : (g : Group) (later K : List Record) → requests_sent (events.events g K) ≤ requests_sent (events.events g (later ++ K))
sent_later g [] K = omega arith
sent_later g (r ∷ later) K =
    let rest = sent_later g later K in
    let more = sent_more (events.events g (later ++ K)) (client_events g r.actor r (later ++ K)) in
    omega (arith, rest, more)

cut_short : (o : Option ℕ) (log : List Entry) → length (cut_at o log) ≤ length log
cut_short None log = omega arith
cut_short (Some place) log = let k = length-take (suc place) log in omega (arith, k)

-- an accepted prefix has at most as many entries as requests were sent
pub prefix_few : (g : Group) (J later K : List Record) (m : ℕ) (id : Id) → World g K → J ≡ later ++ K
    → length (cut_after id (log_at g (Replica m) K)) ≤ requests_sent (events.events g J)
prefix_few g J later K m id w at =
    let a = cut_short (place_of (log_at g (Replica m) K) id) (log_at g (Replica m) K) in
    let b = log_few g K m w in
    let d = sent_later g later K in
    let e : requests_sent (events.events g J) ≡ requests_sent (events.events g (later ++ K)) = ap (λ (l : List Record). requests_sent (events.events g l)) at in
    omega (arith, a, b, d, e)

-- ---- one record more

pub sent_then : (g : Group) (r : Record) (J : List Record) (n : ℕ) → n ≡ requests_sent (events.events g J)
    → n + requests_sent (client_events g r.actor r J) ≡ requests_sent (events.events g (r ∷ J))
sent_then g r J n is = let all = sent_more (events.events g J) (client_events g r.actor r J) in omega (arith, all, is)
