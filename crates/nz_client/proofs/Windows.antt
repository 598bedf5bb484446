-- What the loops over a client's window do, one place at a time.
use Rattle.std.proofs.Common.{◌≡◌, ℕ, zero, suc, ◌+◌, ◌-◌, ◌%◌, ◌<◌, ◌≤◌, eqb, Bool, true, false, not, cond, ◌||◌, List, [], ◌∷◌}
use Rattle.std.proofs.Common.{◌++◌, length, map, take, set, get_or, Option, Some, None, refl, sym, ap, ◌∙◌, inl, inr, arith}
use Rattle.std.specs.Prelude.{slice_get}
use Rattle.std.specs.List.{AllByRecursion, flat_map}
use Rattle.std.proofs.lemmas.List.{length-append, map-append, append_assoc, append-nil, take_more, take_all}
use Rattle.std.proofs.lemmas.Bool.{cases_lt, eq-eqb, false≢true, cases_Bool, cond_both}
use Rattle.nz_base.specs.declared.actor.Actor.TheVariants.{Client}
use Rattle.nz_base.specs.declared.scenario.Request.{Request}
use Rattle.nz_base.specs.declared.limits.TheConstants.{RETRY_TICKS}
use Rattle.nz_machine.specs.declared.data.Attempt.{Attempt}
use Rattle.nz_machine.specs.declared.event.Parcel.{Parcel}
use Rattle.nz_machine.specs.rules.State.{ClientData, Out}
use Rattle.nz_machine.specs.rules.Clients.{if_due, after_opening, open_next, fill_places, is_overdue}
use Rattle.nz_machine.specs.rules.Clients.{attempt_after_wait, retry, retries, is_open, without_attempt}
use Rattle.nz_machine.specs.rules.Step.{parcel}
use Rattle.nz_client.specs.Models.{ClientModel, ClientDoes, IsOfProxies}

-- ---- without an open request there is at least one less

without_short : (num : ℕ) (xs : List Attempt) → length (without_attempt num xs) ≤ length xs
without_short num [] = omega arith
without_short num (a ∷ xs) =
    let rest = without_short num xs in
    cond_both (not (eqb a.num num)) (a ∷ without_attempt num xs)
    (without_attempt num xs) (λ (l : List Attempt). length l ≤ length (a ∷ xs)) (λ _. omega (arith, rest)) (λ _. omega (arith, rest))

pub less_open : (num : ℕ) (xs : List Attempt) → is_open num xs ≡ true → length (without_attempt num xs) + 1 ≤ length xs
less_open num [] e = absurd cc
less_open num (a ∷ xs) e = elim (cases_Bool (eqb a.num num)) [
  | inl t ↦
      let is = ap (λ (b : Bool). length (cond (not b) (a ∷ without_attempt num xs) (without_attempt num xs))) t in
      let rest = without_short num xs in
      omega (arith, is, rest)
  | inr f ↦
      let is = ap (λ (b : Bool). length (cond (not b) (a ∷ without_attempt num xs) (without_attempt num xs))) f in
      let rest = less_open num xs (sym (ap (λ (b : Bool). b || is_open num xs) f) ∙ e) in
      omega (arith, is, rest)
]

pub all_without : (P : Attempt → Type 0) (num : ℕ) (xs : List Attempt) → AllByRecursion P xs → AllByRecursion P (without_attempt num xs)
all_without P num [] h = tt
all_without P num (a ∷ xs) h =
    cond_both (not (eqb a.num num)) (a ∷ without_attempt num xs) (without_attempt num xs) (AllByRecursion P)
    (λ _. (h.0, all_without P num xs h.1)) (λ _. all_without P num xs h.1)

-- ---- an element at a place

pub all_at : (P : Attempt → Type 0) (xs : List Attempt) (i : ℕ) (d : Attempt) → i < length xs → AllByRecursion P xs → P (get_or xs i d)
all_at P [] i d lt h = absurd (omega (arith, lt))
all_at P (x ∷ xs) zero d lt h = h.0
all_at P (x ∷ xs) (suc i) d lt h = all_at P xs i d (omega (arith, lt)) h.1

-- ---- the first ones have waited, one more each turn

abbrev pub done_to : (Attempt → Attempt) → ℕ → List Attempt → List Attempt
done_to f zero xs = xs
done_to f (suc i) [] = []
done_to f (suc i) (x ∷ xs) = f x ∷ done_to f i xs

pub done_next : (f : Attempt → Attempt) (i : ℕ) (xs : List Attempt) (d : Attempt) → get_or (done_to f i xs) i d ≡ get_or xs i d
done_next f zero xs d = refl
done_next f (suc i) [] d = refl
done_next f (suc i) (x ∷ xs) d = done_next f i xs d

pub done_long : (f : Attempt → Attempt) (i : ℕ) (xs : List Attempt) → length (done_to f i xs) ≡ length xs
done_long f zero xs = refl
done_long f (suc i) [] = refl
done_long f (suc i) (x ∷ xs) = ap suc (done_long f i xs)

done_suc : (f : Attempt → Attempt) (i : ℕ) (xs : List Attempt) (d : Attempt) → i < length xs → set (done_to f i xs) i (f (get_or xs i d)) ≡ done_to f (suc i) xs
done_suc f i [] d lt = absurd (omega (arith, lt))
done_suc f zero (x ∷ xs) d lt = refl
done_suc f (suc i) (x ∷ xs) d lt = ap (λ (l : List Attempt). f x ∷ l) (done_suc f i xs d (omega (arith, lt)))

pub done_more : (f : Attempt → Attempt) (i : ℕ) (xs : List Attempt) (d : Attempt) → i < length xs
    → set (done_to f i xs) i (f (get_or xs i d)) ≡ done_to f (i + 1) xs
done_more f i xs d lt = let next : suc i ≡ i + 1 = omega arith in done_suc f i xs d lt ∙ ap (λ (n : ℕ). done_to f n xs) next

pub done_all : (f : Attempt → Attempt) (i : ℕ) (xs : List Attempt) → length xs ≤ i → done_to f i xs ≡ map f xs
done_all f zero [] le = refl
done_all f zero (x ∷ xs) le = absurd (omega (arith, le))
done_all f (suc i) [] le = refl
done_all f (suc i) (x ∷ xs) le = ap (λ (l : List Attempt). f x ∷ l) (done_all f i xs (omega (arith, le)))

waited_by : (proxies : ℕ) (a : Attempt) (b : Bool) → eqb (a.since + 1) RETRY_TICKS ≡ b → IsOfProxies proxies a
    → IsOfProxies proxies (cond b (record { num = a.num; proxy = (a.proxy + 1) % proxies; since = 0 })
    (record { num = a.num; proxy = a.proxy; since = a.since + 1 }))
waited_by proxies a true e h = let below = h.proxy in record { proxy = omega (arith, below); since = omega arith }
waited_by proxies a false e h =
    let since = h.since in
    record {
      proxy = h.proxy;
      since = elim (cases_lt (a.since + 1) RETRY_TICKS) [
        | inl lt ↦ lt
        | inr le ↦ absurd (false≢true (sym e ∙ eq-eqb (a.since + 1) RETRY_TICKS (omega (arith, since, le))))
      ];
    }

waited_fits : (proxies : ℕ) (a : Attempt) → IsOfProxies proxies a → IsOfProxies proxies (attempt_after_wait proxies a)
waited_fits proxies a h = waited_by proxies a (is_overdue a) refl h

pub all_waited_fit : (proxies : ℕ) (xs : List Attempt) → AllByRecursion (IsOfProxies proxies) xs
    → AllByRecursion (IsOfProxies proxies) (map (attempt_after_wait proxies) xs)
all_waited_fit proxies [] h = tt
all_waited_fit proxies (a ∷ xs) h = (waited_fits proxies a h.0, all_waited_fit proxies xs h.1)

-- ---- retries, one open request at a time

flat_more : {X Y : Type 0} (f : X → List Y) (xs : List X) (x : X) → flat_map f (xs ++ x ∷ []) ≡ flat_map f xs ++ f x
flat_more f [] x = append-nil (f x)
flat_more {X} {Y} f (y ∷ xs) x = ap (λ (l : List Y). f y ++ l) (flat_more f xs x) ∙ sym (append_assoc (f y) (flat_map f xs) (f x))

pub one_retried : (me proxies : ℕ) (script : List Request) (xs : List Attempt) (i : ℕ) (a : Attempt) (before now after : List Parcel)
    → i < length xs → a ≡ get_or xs i a
    → now ≡ before ++ map (parcel (Client me)) (retries proxies script (take i xs)) → after ≡ now ++ map (parcel (Client me)) (retry proxies script a)
    → after ≡ before ++ map (parcel (Client me)) (retries proxies script (take (i + 1) xs))
one_retried me proxies script xs i a before now after lt at h is =
    let f = parcel (Client me) in
    let old = retries proxies script (take i xs) in
    let new = retry proxies script a in
    let more : retries proxies script (take (i + 1) xs) ≡ old ++ new =
    ap (retries proxies script) (take_more xs i a lt) ∙ flat_more (retry proxies script) (take i xs) (get_or xs i a)
    ∙ ap (λ (b : Attempt). old ++ retry proxies script b) (sym at) in
    is ∙ ap (λ (l : List Parcel). l ++ map f new) h ∙ append_assoc before (map f old) (map f new)
    ∙ ap (λ (l : List Parcel). before ++ l) (sym (map-append f old new) ∙ ap (map f) (sym more))

pub all_retried : (me proxies : ℕ) (script : List Request) (xs : List Attempt) (i : ℕ) (before now : List Parcel) → length xs ≤ i
    → now ≡ before ++ map (parcel (Client me)) (retries proxies script (take i xs)) → now ≡ before ++ map (parcel (Client me)) (retries proxies script xs)
all_retried me proxies script xs i before now past h =
    h ∙ ap (λ (l : List Attempt). before ++ map (parcel (Client me)) (retries proxies script l)) (take_all i xs past)

-- ---- the free places, one at a time

-- after this many of the free places, the others leave what all of them do
pub record IsFilling (s t : ClientModel) (free done : ℕ) (before now : List Parcel) : Type 0 where
  pub me : t.me ≡ s.me
  pub proxies : t.proxies ≡ s.proxies
  pub window : t.window ≡ s.window
  pub script : t.script ≡ s.script
  pub room : length t.state.attempts + (free - done) ≤ s.window
  pub state : (fill_places (free - done) s.proxies s.me s.script t.state).0 ≡ (fill_places free s.proxies s.me s.script s.state).0
  pub sends : now ++ map (parcel (Client s.me)) (fill_places (free - done) s.proxies s.me s.script t.state).1
      ≡ before ++ map (parcel (Client s.me)) (fill_places free s.proxies s.me s.script s.state).1

opened_room : (proxies me : ℕ) (x : ClientData) (o : Option Request) → length (after_opening proxies me x o).0.attempts ≤ length x.attempts + 1
opened_room proxies me x None = omega arith
opened_room proxies me x (Some r) =
    let long = length-append x.attempts (record { num = x.sent + 1; proxy = me % proxies; since = 0 } ∷ []) in omega (arith, long)

open_room : (proxies me : ℕ) (script : List Request) (x : ClientData) → length (open_next proxies me script x).0.attempts ≤ length x.attempts + 1
open_room proxies me script x = opened_room proxies me x (if_due x.ticks (slice_get script x.sent))

opens_same : (a b : ClientModel) → a.proxies ≡ b.proxies → a.me ≡ b.me → a.script ≡ b.script
    → open_next a.proxies a.me a.script b.state ≡ open_next b.proxies b.me b.script b.state
opens_same a b p m sc =
    ap (λ (n : ℕ). open_next n a.me a.script b.state) p ∙ ap (λ (n : ℕ). open_next b.proxies n a.script b.state) m
    ∙ ap (λ (l : List Request). open_next b.proxies b.me l b.state) sc

filling_by : (s t u : ClientModel) (free done rest : ℕ) (before now after : List Parcel) → free - (done + 1) ≡ rest
    → free - done ≡ suc rest → IsFilling s t free done before now
    → u ≡ record t { state = (open_next t.proxies t.me t.script t.state).0 }
    → after ≡ now ++ map (parcel (Client t.me)) (open_next t.proxies t.me t.script t.state).1
    → IsFilling s u free (done + 1) before after
filling_by s t u free done rest before now after left was h state sends =
    let x = open_next s.proxies s.me s.script t.state in
    let f = parcel (Client s.me) in
    let same : open_next t.proxies t.me t.script t.state ≡ x = sym (opens_same s t (sym h.proxies) (sym h.me) (sym h.script)) in
    let next : u.state ≡ x.0 = ap (λ (v : ClientModel). v.state) state ∙ ap (λ (y : ClientData × List Out). y.0) same in
    let sent : after ≡ now ++ map f x.1 =
    sends ∙ ap (λ (n : ℕ). now ++ map (parcel (Client n)) (open_next t.proxies t.me t.script t.state).1) h.me
    ∙ ap (λ (y : ClientData × List Out). now ++ map f y.1) same in
    let v = fill_places rest s.proxies s.me s.script x.0 in
    let room = h.room in
    let one = open_room s.proxies s.me s.script t.state in
    let long = ap (λ (d : ClientData). length d.attempts) next in
    let old_state = ap (λ (n : ℕ). (fill_places n s.proxies s.me s.script t.state).0) (sym was) ∙ h.state in
    let old_sends = ap (λ (n : ℕ). now ++ map f (fill_places n s.proxies s.me s.script t.state).1) (sym was) ∙ h.sends in
    record {
      me = ap (λ (w : ClientModel). w.me) state ∙ h.me;
      proxies = ap (λ (w : ClientModel). w.proxies) state ∙ h.proxies;
      window = ap (λ (w : ClientModel). w.window) state ∙ h.window;
      script = ap (λ (w : ClientModel). w.script) state ∙ h.script;
      room = omega (arith, room, one, long, left, was);
      state =
          ap (λ (n : ℕ). (fill_places n s.proxies s.me s.script u.state).0) left
          ∙ ap (λ (d : ClientData). (fill_places rest s.proxies s.me s.script d).0) next ∙ old_state;
      sends = ap (λ (n : ℕ). after ++ map f (fill_places n s.proxies s.me s.script u.state).1) left
          ∙ ap (λ (d : ClientData). after ++ map f (fill_places rest s.proxies s.me s.script d).1) next
          ∙ ap (λ (l : List Parcel). l ++ map f v.1) sent ∙ append_assoc now (map f x.1) (map f v.1)
          ∙ ap (λ (l : List Parcel). now ++ l) (sym (map-append f x.1 v.1)) ∙ old_sends;
    }

-- one place more takes the next request
pub filling_more : (s t u : ClientModel) (free done : ℕ) (before now after : List Parcel) → done < free → IsFilling s t free done before now
    → u ≡ record t { state = (open_next t.proxies t.me t.script t.state).0 }
    → after ≡ now ++ map (parcel (Client t.me)) (open_next t.proxies t.me t.script t.state).1
    → IsFilling s u free (done + 1) before after
filling_more s t u free done before now after lt h state sends =
    filling_by s t u free done (free - (done + 1)) before now after (omega (arith, lt)) (omega (arith, lt)) h state sends

-- before the first place
pub filling_none : (s : ClientModel) (free : ℕ) (before : List Parcel) → free ≡ s.window - length s.state.attempts → length s.state.attempts ≤ s.window
    → IsFilling s s free 0 before before
filling_none s free before is few =
    record {
      me = refl;
      proxies = refl;
      window = refl;
      script = refl;
      room = omega (arith, is, few);
      state = filled_by (free - 0) (omega arith);
      sends = sent_by_all (free - 0) (omega arith);
    }
  where
    filled_by : (n : ℕ) → n ≡ free → (fill_places n s.proxies s.me s.script s.state).0 ≡ (fill_places free s.proxies s.me s.script s.state).0
    filled_by n e = ap (λ (k : ℕ). (fill_places k s.proxies s.me s.script s.state).0) e

    sent_by_all : (n : ℕ) → n ≡ free → before ++ map (parcel (Client s.me)) (fill_places n s.proxies s.me s.script s.state).1
        ≡ before ++ map (parcel (Client s.me)) (fill_places free s.proxies s.me s.script s.state).1
    sent_by_all n e = ap (λ (k : ℕ). before ++ map (parcel (Client s.me)) (fill_places k s.proxies s.me s.script s.state).1) e

-- after the last one all is done
pub filling_all : (s t : ClientModel) (free done : ℕ) (before now : List Parcel) → free ≤ done
    → IsFilling s t free done before now
    → ClientDoes s t before now (fill_places free s.proxies s.me s.script s.state)
filling_all s t free done before now past h = filled_at (free - done) (omega (arith, past)) h.state h.sends
  where
    filled_at : (n : ℕ) → n ≡ 0 → (fill_places n s.proxies s.me s.script t.state).0 ≡ (fill_places free s.proxies s.me s.script s.state).0
        → now ++ map (parcel (Client s.me)) (fill_places n s.proxies s.me s.script t.state).1
        ≡ before ++ map (parcel (Client s.me)) (fill_places free s.proxies s.me s.script s.state).1
        → ClientDoes s t before now (fill_places free s.proxies s.me s.script s.state)
    filled_at zero e state sends = record {
      state = λ i. record { me = h.me i; proxies = h.proxies i; window = h.window i; script = h.script i; state = state i };
      sends = sym (append-nil now) ∙ sends;
    }
    filled_at (suc n) e state sends = absurd (omega (arith, e))
