-- The history of a run is one of its accepted prefixes, and each accepted answer has a prefix that is not longer.
use Rattle.std.proofs.Common.{◌≡◌, ℕ, ◌≤◌, Bool, true, false, cond, nat_lt, List, [], ◌∷◌, ◌++◌, length, Some}
use Rattle.std.proofs.Common.{refl, sym, ap, subst, ◌∙◌, arith, inl, inr, ◌⊎◌, ltb-true, ltb-false}
use Rattle.nz_base.specs.declared.key.Id.{Id}
use Rattle.nz_base.specs.declared.key.Entry.{Entry}
use Rattle.nz_base.specs.Log.{keys_of, has_id, HaveOwnIds}
use Rattle.nz_store.specs.declared.command.Answer.{Answer}
use Rattle.nz_msg.specs.declared.message.Path.{Path}
use Rattle.nz_machine.specs.declared.event.Event.{Event}
use Rattle.nz_machine.specs.declared.event.Event.TheVariants.{Deliver}
use Rattle.nz_machine.specs.declared.event.Record.{Record}
use Rattle.nz_machine.specs.rules.State.{Group}
use Rattle.nz_machine.specs.runs.World.{Has, World}
use Rattle.nz_machine.specs.declared.client_event.ClientEvent.{ClientEvent}
use Rattle.nz_machine.specs.declared.client_event.ClientEvent.TheVariants.{Sent, Accepted}
use Rattle.nz_machine.specs.runs.Events.{client_events, events}
use Rattle.nz_machine.specs.runs.History.{prefix_in, longer, history}
use Rattle.nz_machine.specs.rules.Quorums.{view_of}
use Rattle.nz_machine.specs.runs.OneHistory.{Precedes, IsAccepted}
use Rattle.nz_machine.proofs.runs.Runs.{has_left, has_right, has_split}
use Rattle.nz_base.proofs.Moments.{at_self}
use Rattle.nz_base.specs.declared.limits.TheConstants.{MAX_ENTRIES}
use Rattle.nz_laws_commit.proofs.Places.{absent_by}
use Rattle.nz_laws_commit.proofs.Answering.{IsGiven, given_later}
use Rattle.nz_laws_commit.proofs.Accepted.{gives, accepted_given, given_sent, given_own, given_few}
use Rattle.nz_laws_commit.proofs.Counts.{precedes_has, precedes_three}
use Rattle.nz_laws_commit.proofs.ClientEvents.{event_sent, event_accepted, not_sent_before}
use Rattle.nz_laws_commit.proofs.OwnCommands.{WasSent}

-- ---- the longest

longer_by : (old new : List Entry) (b : Bool) → nat_lt (length old) (length new) ≡ b
    → (length old ≤ length (cond b new old)) × ((length new ≤ length (cond b new old)) × ((cond b new old ≡ old) ⊎ (cond b new old ≡ new)))
longer_by old new true e = let lt = ltb-true (length old) (length new) e in (omega (arith, lt), (omega arith, inr refl))
longer_by old new false e = let le = ltb-false (length old) (length new) e in (omega arith, (omega (arith, le), inl refl))

pub record IsLonger (old new both : List Entry) : Type 0 where
  pub than_old : length old ≤ length both
  pub than_new : length new ≤ length both
  pub cases : (both ≡ old) ⊎ (both ≡ new)

longer_is : (old new : List Entry) → IsLonger old new (longer old new)
longer_is old new = let t = longer_by old new (nat_lt (length old) (length new)) refl in record { than_old = t.0; than_new = t.1.0; cases = t.1.1 }

prefix_cases : (g : Group) (listed : List ClientEvent) (e : Event) (J : List Record)
    → (prefix_in g listed e J ≡ []) ⊎ ((id : Id) × ((a : Answer) × ((path : Path) × Has listed (Accepted id a path))))
prefix_cases g (Accepted id a path ∷ listed) (Deliver p) J = inr (id, (a, (path, inl refl)))
prefix_cases g _ _ J = inl refl

-- ---- the history

-- an accepted answer has an accepted prefix, which is not longer than the history
pub record IsCovered (g : Group) (J : List Record) (id : Id) (a : Answer) : Type 0 where
  pub prefix : List Entry
  pub accepted : IsAccepted g prefix J
  pub view : ℕ
  pub given : IsGiven g J view id a prefix
  pub short : length prefix ≤ length (history g J)

-- the same, and another request is not in that prefix
pub record IsBefore (g : Group) (J : List Record) (id : Id) (a : Answer) (other : Id) : Type 0 where
  pub covered : IsCovered g J id a
  pub absent : has_id (keys_of covered.prefix) other ≡ false

pub record IsHistory (g : Group) (J : List Record) : Type 0 where
  pub covers : (id : Id) (a : Answer) (path : Path) → Has (events g J) (Accepted id a path) → IsCovered g J id a
  pub ends : (history g J ≡ []) ⊎ IsAccepted g (history g J) J
  pub in_order : (id : Id) (a : Answer) (path : Path) (other : Id) (command : List ℕ)
      → Precedes (events g J) (Accepted id a path) (Sent other command) → IsBefore g J id a other

grown : (g : Group) (r : Record) (J : List Record) → length (history g J) ≤ length (history g (r ∷ J))
grown g r J = (longer_is (history g J) (prefix_in g (client_events g r.actor r J) r.event J)).than_old

-- a prefix that is given before the record
pub record IsCoveredBy (g : Group) (r : Record) (J : List Record) (id : Id) (a : Answer) : Type 0 where
  pub prefix : List Entry
  pub accepted : IsAccepted g prefix (r ∷ J)
  pub view : ℕ
  pub given : IsGiven g J view id a prefix
  pub short : length prefix ≤ length (history g (r ∷ J))

covered_old : (g : Group) (r : Record) (J : List Record) (id : Id) (a : Answer) → IsCovered g J id a → IsCoveredBy g r J id a
covered_old g r J id a h =
    record { prefix = h.prefix; accepted = inr h.accepted; view = h.view; given = h.given; short = let k = grown g r J in omega (arith, k, h.short) }

covered_now : (g : Group) (r : Record) (J : List Record) (id : Id) (a : Answer) (path : Path) → World g (r ∷ J)
    → Has (client_events g r.actor r J) (Accepted id a path) → IsCoveredBy g r J id a
covered_now g r J id a path w h =
    let t = gives g r J id a path w (event_accepted g r J id a path h) in
    let long = (longer_is (history g J) (prefix_in g (client_events g r.actor r J) r.event J)).than_new in
    record {
      prefix = t.prefix;
      accepted = inl (record { id = id; answer = a; path = path; brought = t.parcel; accepted_there = h; event = t.event; prefix = t.found });
      view = view_of t.reply;
      given = t.given;
      short = omega (arith, long, ap length t.is);
    }

covered_at : (g : Group) (r : Record) (J : List Record) (id : Id) (a : Answer) → IsCoveredBy g r J id a → IsCovered g (r ∷ J) id a
covered_at g r J id a h =
    record {
      prefix = h.prefix;
      accepted = h.accepted;
      view = h.view;
      given = given_later g (r ∷ J) J
          (inr (at_self J)) h.view id a h.prefix h.given;
      short = h.short;
    }

-- a request that is sent now is in no log of before
absent_now : (g : Group) (r : Record) (J : List Record) (other : Id) (command : List ℕ) (v : ℕ) (id : Id) (a : Answer) (P : List Entry) → World g J
    → Has (client_events g r.actor r J) (Sent other command) → IsGiven g J v id a P → has_id (keys_of P) other ≡ false
absent_now g r J other command v id a P w h given =
    let new = event_sent g r J other command h in
    absent_by other P (λ e within same. not_sent_before g r J other e.command new
    (subst (λ (i : Id). Has (events g J) (Sent i e.command)) same (given_sent g J w v id a P given e within)))

before_now : (g : Group) (r : Record) (J : List Record) (id : Id) (a : Answer) (other : Id) (command : List ℕ) → World g (r ∷ J)
    → Has (client_events g r.actor r J) (Sent other command) → IsCoveredBy g r J id a → IsBefore g (r ∷ J) id a other
unfolding covered_at
before_now g r J id a other command w h k =
    record { covered = covered_at g r J id a k; absent = absent_now g r J other command k.view id a k.prefix w.1 h k.given }

before_later : (g : Group) (r : Record) (J : List Record) (id : Id) (a : Answer) (other : Id) → IsBefore g J id a other
    → IsBefore g (r ∷ J) id a other
unfolding covered_at covered_old
before_later g r J id a other h = record { covered = covered_at g r J id a (covered_old g r J id a h.covered); absent = h.absent }

-- ---- lists of events

-- the second is in the first list with the first, or in the second list
precedes_split : {X : Type 0} (xs ys : List X) (x y : X) → Precedes (xs ++ ys) x y → Precedes xs x y ⊎ (Has (xs ++ ys) x × Has ys y)
precedes_split xs ys x y h = elim (precedes_three xs ys x y h) [
  | inl a ↦ inl a
  | inr (inl b) ↦ inr (has_left xs ys x b.0, b.1)
  | inr (inr k) ↦ let t = precedes_has ys x y k in inr (has_right xs ys x t.0, t.1)
]

-- ---- runs

covered_in : (g : Group) (r : Record) (J : List Record) → World g (r ∷ J) → IsHistory g J → (id : Id) (a : Answer) (path : Path)
    → Has (events g (r ∷ J)) (Accepted id a path) → IsCoveredBy g r J id a
covered_in g r J w h id a path k = elim (has_split (events g J) (client_events g r.actor r J) (Accepted id a path) k) [
  | inl x ↦ covered_old g r J id a (h.covers id a path x)
  | inr x ↦ covered_now g r J id a path w x
]

accepted_now : (g : Group) (r : Record) (J : List Record) (id : Id) (a : Answer) (path : Path) → World g (r ∷ J)
    → Has (client_events g r.actor r J) (Accepted id a path) → IsAccepted g (prefix_in g (client_events g r.actor r J) r.event J) (r ∷ J)
accepted_now g r J id a path w h =
    let t = gives g r J id a path w (event_accepted g r J id a path h) in
    inl (record { id = id; answer = a; path = path; brought = t.parcel; accepted_there = h; event = t.event; prefix = t.found ∙ ap Some (sym t.is) })

ends_new : (g : Group) (r : Record) (J : List Record) → World g (r ∷ J)
    → (prefix_in g (client_events g r.actor r J) r.event J ≡ []) ⊎ IsAccepted g (prefix_in g (client_events g r.actor r J) r.event J) (r ∷ J)
ends_new g r J w =
    elim (prefix_cases g (client_events g r.actor r J) r.event J) [ inl none ↦ inl none | inr h ↦ inr (accepted_now g r J h.0 h.1.0 h.1.1.0 w h.1.1.1) ]

ends_later : (g : Group) (r : Record) (J : List Record) → World g (r ∷ J) → IsHistory g J
    → (history g (r ∷ J) ≡ []) ⊎ IsAccepted g (history g (r ∷ J)) (r ∷ J)
ends_later g r J w h = elim (longer_is (history g J) (prefix_in g (client_events g r.actor r J) r.event J)).cases [
  | inl old ↦ elim h.ends [ inl none ↦ inl (old ∙ none) | inr l ↦ inr (inr (subst (λ (H : List Entry). IsAccepted g H J) (sym old) l)) ]
  | inr new ↦ elim (ends_new g r J w) [ inl none ↦ inl (new ∙ none) | inr l ↦ inr (subst (λ (H : List Entry). IsAccepted g H (r ∷ J)) (sym new) l) ]
]

order_later : (g : Group) (r : Record) (J : List Record) → World g (r ∷ J) → IsHistory g J
    → (id : Id) (a : Answer) (path : Path) (other : Id) (command : List ℕ) → Precedes (events g (r ∷ J)) (Accepted id a path) (Sent other command)
    → IsBefore g (r ∷ J) id a other
order_later g r J w h id a path other command p = elim (precedes_split (events g J) (client_events g r.actor r J) (Accepted id a path) (Sent other command) p) [
  | inl old ↦ before_later g r J id a other (h.in_order id a path other command old)
  | inr new ↦ before_now g r J id a other command w new.1 (covered_in g r J w h id a path new.0)
]

pub history_is : (g : Group) (J : List Record) → World g J → IsHistory g J
history_is g [] w = record { covers = λ id a path h. absurd h; ends = inl refl; in_order = λ id a path other command h. absurd h }
history_is g (r ∷ J) w =
    let h = history_is g J w.1 in
    record {
      covers = λ id a path k. covered_at g r J id a (covered_in g r J w h id a path k);
      ends = ends_later g r J w h;
      in_order = order_later g r J w h;
    }

-- each entry of the history was sent
pub history_sent : (g : Group) (J : List Record) → World g J → (e : Entry) → Has (history g J) e → WasSent (events g J) e
history_sent g J w e there = elim (history_is g J w).ends [
  | inl none ↦ absurd (subst (λ (H : List Entry). Has H e) none there)
  | inr l ↦ let h = accepted_given g J w (history g J) l in given_sent g J w h.view h.id h.answer (history g J) h.given e there
]

-- no id is in it twice
pub history_own : (g : Group) (J : List Record) → World g J → HaveOwnIds (keys_of (history g J))
history_own g J w = elim (history_is g J w).ends [
  | inl none ↦ subst (λ (H : List Entry). HaveOwnIds (keys_of H)) (sym none) tt
  | inr l ↦ let h = accepted_given g J w (history g J) l in given_own g J w h.view h.id h.answer (history g J) h.given
]

pub history_few : (g : Group) (J : List Record) → World g J → length (history g J) ≤ MAX_ENTRIES
history_few g J w = elim (history_is g J w).ends [
  | inl none ↦ omega (arith, ap length none)
  | inr l ↦ let h = accepted_given g J w (history g J) l in given_few g J w h.view h.id h.answer (history g J) h.given
]
