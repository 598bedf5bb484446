-- The cores of a run have the states that the records lead them to, record by record.
use Rattle.std.proofs.Common.{◌≡◌, ℕ, zero, suc, ◌+◌, ◌<◌, eqb, Bool, true, false, List, [], ◌∷◌, ◌++◌, length, map, get_or}
use Rattle.std.proofs.Common.{set, Option, Some, Result, Ok, Err, refl, sym, ap, ◌∙◌, subst, arith, length-append}
use Rattle.std.specs.Prelude.{slice_get, IfOk, OnOk, IfSome}
use Rattle.std.specs.List.{AllByRecursion}
use Rattle.std.proofs.lemmas.Option.{none-some, same_Some}
use Rattle.std.proofs.lemmas.List.{map-append, get_or-map, length-map, length-set, get_or-set_same, get_or-set_other, get_or_append_left, get_or_push}
use Rattle.std.proofs.lemmas.Bool.{eqb-true}
use Rattle.std.proofs.lemmas.Bool.Decides.{nat_tests}
use Rattle.nz_base.specs.Actor.{actor_eq}
use Rattle.nz_base.specs.declared.actor.Actor.{Actor}
use Rattle.nz_base.specs.declared.scenario.Request.{Request}
use Rattle.nz_base.specs.declared.scenario.Scenario.{Scenario}
use Rattle.nz_machine.specs.declared.event.Event.{Event}
use Rattle.nz_machine.specs.declared.event.Parcel.{Parcel}
use Rattle.nz_machine.specs.declared.event.Record.{Record}
use Rattle.nz_machine.specs.rules.Replicas.{numbers_below}
use Rattle.nz_machine.specs.rules.State.{Group}
use Rattle.nz_machine.specs.rules.Step.{Node, first, node_run}
use Rattle.nz_machine.specs.runs.World.{state_after, HasCommand}
use Rattle.nz_machine.specs.runs.Schedule.{IsPlayable}
use Rattle.nz_machine.proofs.lists.EachItem.{all_imply}
use Rattle.nz_machine.proofs.lists.ListParts.{all_get}
use Rattle.nz_machine.proofs.facts.SentFields.{command_fits}
use Rattle.nz_client.specs.Models.{IsSendable, AreSendable}
use Rattle.nz_machine.proofs.runs.Runs.{acts_itself, stays}
use Rattle.nz_run.specs.Casts.{IsAt, AreAt, record_of, sends_of}

-- ---- the first states

pub length_numbers : (n : ℕ) → length (numbers_below n) ≡ n
length_numbers zero = refl
length_numbers (suc n) = let ih = length_numbers n in let l = length-append (numbers_below n) (n ∷ []) in omega (arith, ih, l)

number_by : (n k d : ℕ) (b : Bool) → eqb k n ≡ b → k < suc n → (k < n → get_or (numbers_below n) k d ≡ k) → get_or (numbers_below n ++ n ∷ []) k d ≡ k
number_by n k d true e lt ih = let same = eqb-true k n e in get_or_push (numbers_below n) n d k (length_numbers n ∙ sym same) ∙ sym same
number_by n k d false e lt ih =
    let below : k < n = grind (arith, nat_tests) in
    get_or_append_left (numbers_below n) (n ∷ []) d k (let l = length_numbers n in omega (arith, l, below)) ∙ ih below

number_at : (n k d : ℕ) → k < n → get_or (numbers_below n) k d ≡ k
number_at zero k d lt = absurd (omega (arith, lt))
number_at (suc n) k d lt = number_by n k d (eqb k n) refl lt (λ below. number_at n k d below)

pub begin_at : (g : Group) (a : Actor) → first g a ≡ state_after g a []
unfolding state_after
begin_at g a = refl

pub all_begin : {C : Type 0} (meaning : C → Node) (live : C → Bool) (fits : C → Group → Type 0) (g : Group)
    (named : ℕ → Actor) (f : ℕ → C) (n : ℕ) (cores : List C) → cores ≡ map f (numbers_below n)
    → ((k : ℕ) → k < n → IsAt g [] (named k) (meaning (f k)) (live (f k)) (fits (f k) g)) → AreAt meaning live fits g named [] cores
all_begin meaning live fits g named f n cores e h k d lt =
    let long = length-map (numbers_below n) f ∙ length_numbers n in
    let below : k < n = (let same = ap length e in omega (arith, long, same, lt)) in
    let same : get_or cores k d ≡ f k =
    ap (λ cs. get_or cs k d) e ∙ get_or-map f (numbers_below n) k 0 d
    (let l = length_numbers n in omega (arith, l, below)) ∙ ap f (number_at n k 0 below) in
    subst (λ c. IsAt g [] (named k) (meaning c) (live c) (fits c g)) (sym same) (h k below)

pub long_begin : {C : Type 0} (f : ℕ → C) (n : ℕ) (cores : List C) → cores ≡ map f (numbers_below n) → length cores ≡ n
long_begin f n cores e = ap length e ∙ length-map (numbers_below n) f ∙ length_numbers n

-- ---- one record more

-- the core that takes the event
own_step : (g : Group) (J : List Record) (a : Actor) (old new : Node) (e : Event) (sends : List Parcel) (tick : ℕ)
    → old ≡ record { actor = a; state = state_after g a J } → node_run g old e ≡ (new, sends)
    → (sends ≡ sends_of g J a e) × (new ≡ record { actor = a; state = state_after g a (record_of tick a e sends ∷ J) })
own_step g J a old new e sends tick at step =
    let before : Node = record { actor = a; state = state_after g a J } in
    let ran : node_run g before e ≡ (new, sends) = ap (λ (n : Node). node_run g n e) (sym at) ∙ step in
    let r = record_of tick a e sends in (
      sym (ap (λ (t : Node × List Parcel). t.1) ran),
      sym (ap (λ (t : Node × List Parcel). t.0) ran) ∙ ap (λ (s : _). let n : Node = record { actor = a; state = s } in n) (sym (acts_itself g a r J refl)),
    )

-- a core that does not
pub stays_at : (g : Group) (J : List Record) (a b : Actor) (e : Event) (sends : List Parcel) (tick : ℕ)
    (meaning : Node) (live : Bool) (fits : Type 0) → actor_eq b a ≡ false → IsAt g J a meaning live fits
    → IsAt g (record_of tick b e sends ∷ J) a meaning live fits
stays_at g J a b e sends tick meaning live fits other h = record {
  stands = h.stands ∙ ap (λ (s : _). let n : Node = record { actor = a; state = s } in n) (sym (stays g a (record_of tick b e sends) J other));
  lives = h.lives;
  is_of = h.is_of;
}

pub all_stay : {C : Type 0} (meaning : C → Node) (live : C → Bool) (fits : C → Group → Type 0) (g : Group)
    (named : ℕ → Actor) (J : List Record) (cores : List C) (b : Actor) (e : Event) (sends : List Parcel) (tick : ℕ)
    → ((k : ℕ) → actor_eq b (named k) ≡ false) → AreAt meaning live fits g named J cores → AreAt meaning live fits g named (record_of tick b e sends ∷ J) cores
all_stay meaning live fits g named J cores b e sends tick other h k d lt = stays_at g J (named k) b e sends tick _ _ _ (other k) (h k d lt)

-- what a core's step promises
pub record Takes {C : Type 0} (meaning : C → Node) (live : C → Bool) (fits : C → Group → Type 0) (old new : C) (e : Event) (sends : List Parcel) : Type 0 where
  pub step : (g : Group) → fits old g → node_run g (meaning old) e ≡ (meaning new, sends)
  pub lives : live new ≡ true
  pub is_of : (g : Group) → fits old g → fits new g

pub after_step : {C : Type 0} (meaning : C → Node) (live : C → Bool) (fits : C → Group → Type 0) (g : Group)
    (named : ℕ → Actor) (J : List Record) (cores : List C) (i : ℕ) (old new : C) (e : Event) (sends : List Parcel) (tick : ℕ)
    → ((i k : ℕ) → actor_eq (named i) (named k) ≡ eqb i k) → AreAt meaning live fits g named J cores
    → i < length cores → old ≡ get_or cores i old → Takes meaning live fits old new e sends
    → (sends ≡ sends_of g J (named i) e) × AreAt meaning live fits g named (record_of tick (named i) e sends ∷ J) (set cores i new)
after_step {C} meaning live fits g named J cores i old new e sends tick apart h lt at t = (
  own.0,
  λ k d below. each k d (let l = length-set cores i new in omega (arith, l, below)) (eqb i k) refl,
)
  where
    was : IsAt g J (named i) (meaning old) (live old) (fits old g)
    was = subst (λ c. IsAt g J (named i) (meaning c) (live c) (fits c g)) (sym at) (h i old lt)

    own : (sends ≡ sends_of g J (named i) e)
        × (meaning new ≡ record { actor = named i; state = state_after g (named i) (record_of tick (named i) e sends ∷ J) })
    own = own_step g J (named i) (meaning old) (meaning new) e sends tick was.stands (t.step g was.is_of)

    each : (k : ℕ) (d : C) → k < length cores → (b : Bool) → eqb i k ≡ b
        → IsAt g (record_of tick (named i) e sends ∷ J) (named k) (meaning (get_or (set cores i new) k d))
        (live (get_or (set cores i new) k d)) (fits (get_or (set cores i new) k d) g)
    each k d below true eq =
        let same : i ≡ k = eqb-true i k eq in
        let there : get_or (set cores i new) k d ≡ new = ap (λ n. get_or (set cores i new) n d) (sym same) ∙ get_or-set_same cores i new d lt in
        subst (λ c. IsAt g (record_of tick (named i) e sends ∷ J) (named k) (meaning c) (live c) (fits c g)) (sym there)
        (subst (λ n. IsAt g (record_of tick (named i) e sends ∷ J) (named n) (meaning new) (live new) (fits new g)) same
        (record { stands = own.1; lives = t.lives; is_of = t.is_of g was.is_of }))
    each k d below false eq =
        let there : get_or (set cores i new) k d ≡ get_or cores k d = get_or-set_other cores i k new d (grind (arith, nat_tests)) in
        subst (λ c. IsAt g (record_of tick (named i) e sends ∷ J) (named k) (meaning c) (live c) (fits c g)) (sym there)
        (stays_at g J (named k) (named i) e sends tick _ _ _ (apart i k ∙ eq) (h k d below))

-- ---- results of calls

pub if_ok : {X E : Type 0} (r : Result X E) (P Q : X → Type 0) → ((x : X) → P x → Q x) → IfOk r P → IfOk r Q
if_ok (Ok x) P Q f h = f x h
if_ok (Err e) P Q f h = tt

pub step_result : {C E : Type 0} (r : Result (List Parcel) E) (meaning : C → Node) (live : C → Bool)
    (fits : C → Group → Type 0) (cores : List C) (i j : ℕ) (old new : C) (e : Event)
    → IfOk r (λ sends. (g : Group) → fits old g → node_run g (meaning old) e ≡ (meaning new, sends))
    → OnOk r (live new ≡ true) → ((g : Group) → fits old g → fits new g)
    → j ≡ i → i < length cores → old ≡ get_or cores j old
    → IfOk r (λ sends. (g : Group) (named : ℕ → Actor) (J : List Record) (tick : ℕ)
    → ((i k : ℕ) → actor_eq (named i) (named k) ≡ eqb i k) → AreAt meaning live fits g named J cores
    → (sends ≡ sends_of g J (named i) e) × AreAt meaning live fits g named (record_of tick (named i) e sends ∷ J) (set cores j new))
step_result (Ok sends) meaning live fits cores i j old new e step lives is_of same lt at = λ g named J tick apart h.
    subst (λ n. (sends ≡ sends_of g J (named i) e) × AreAt meaning live fits g named (record_of tick (named i) e sends ∷ J) (set cores n new)) (sym same)
    (after_step meaning live fits g named J cores i old new e sends tick apart h lt
    (at ∙ ap (λ n. get_or cores n old) same) (record { step = step; lives = lives; is_of = is_of }))
step_result (Err e') meaning live fits cores i j old new e step lives is_of same lt at = tt

-- ---- one core more

pub one_more : {C : Type 0} (f : ℕ → C) (n : ℕ) (now next : List C) (x : C) → now ≡ map f (numbers_below n) → x ≡ f n
    → next ≡ now ++ x ∷ [] → next ≡ map f (numbers_below (n + 1))
one_more f n now next x so_far is e =
    let more : suc n ≡ n + 1 = omega arith in
    e ∙ ap (λ cs. cs ++ x ∷ []) so_far ∙ ap (λ y. map f (numbers_below n) ++ y ∷ []) is
    ∙ sym (map-append f (numbers_below n) (n ∷ [])) ∙ ap (λ k. map f (numbers_below k)) more

-- ---- scripts

pub got_or : {X : Type 0} (xs : List X) (i : ℕ) (x d : X) → slice_get xs i ≡ Some x → get_or xs i d ≡ x
got_or [] i x d e = absurd (none-some x e)
got_or (y ∷ xs) zero x d e = same_Some y x e
got_or (y ∷ xs) (suc i) x d e = got_or xs i x d e

-- the script of a client of a playable scenario can be sent
pub sendable : (s : Scenario) (i : ℕ) (script : List Request) → IsPlayable s → slice_get s.scripts i ≡ Some script → AreSendable script
sendable s i script play e =
    let asked : AllByRecursion HasCommand script =
    subst (λ (o : Option (List Request)). IfSome o (AllByRecursion HasCommand)) e (all_get (AllByRecursion HasCommand) s.scripts i play.group.commands) in
    all_imply HasCommand IsSendable (λ r h. record { command = command_fits r.command h.command }) script asked
