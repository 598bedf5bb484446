-- Which requests the events accept an answer to, one event at a time.
use Rattle.std.proofs.Common.{◌≡◌, ℕ, ◌+◌, ◌<◌, Bool, true, false, ◌||◌, cond, List, [], ◌∷◌, ◌++◌, length, take, get_or, refl, sym, ap, ◌∙◌}
use Rattle.std.specs.List.{list_any}
use Rattle.std.proofs.lemmas.List.{take_more, map-append}
use Rattle.std.proofs.lemmas.List.Folds.{list_any-append}
use Rattle.nz_base.specs.Key.{id_eq}
use Rattle.nz_base.specs.declared.key.Id.{Id}
use Rattle.nz_store.specs.declared.command.Answer.{Answer}
use Rattle.nz_msg.specs.declared.message.Path.{Path}
use Rattle.nz_machine.specs.declared.client_event.EventAt.{EventAt}
use Rattle.nz_machine.specs.journals.EventNotes.{events_alone}
use Rattle.nz_machine.specs.declared.client_event.ClientEvent.{ClientEvent}
use Rattle.nz_machine.specs.declared.client_event.ClientEvent.TheVariants.{Sent, Accepted}
use Rattle.nz_text.specs.Text.{accepts_it, open_in}

last_first : (a b : Bool) → (a || (b || false)) ≡ cond b true a
last_first true true = refl
last_first true false = refl
last_first false true = refl
last_first false false = refl

any_more : (id : Id) (E : List EventAt) (i : ℕ) (x : EventAt) → i < length E → x ≡ get_or E i x
    → list_any (accepts_it id) (events_alone (take (i + 1) E)) ≡ cond (accepts_it id x.event) true (list_any (accepts_it id) (events_alone (take i E)))
any_more id E i x lt is =
    let any = list_any (accepts_it id) in
    let before = events_alone (take i E) in
    ap (λ (l : List EventAt). any (events_alone l)) (take_more E i x lt)
    ∙ ap any (map-append (λ (y : EventAt). y.event) (take i E) (get_or E i x ∷ []))
    ∙ ap (λ (y : EventAt). any (before ++ y.event ∷ [])) (sym is)
    ∙ list_any-append (accepts_it id) before (x.event ∷ []) ∙ last_first (any before) (accepts_it id x.event)

-- an acceptance more
pub accepted_more : (E : List EventAt) (i : ℕ) (x : EventAt) (k id : Id) (answer : Answer) (path : Path) (before after : Bool) → i < length E
    → x ≡ get_or E i x → x.event ≡ Accepted k answer path → before ≡ list_any (accepts_it id) (events_alone (take i E))
    → after ≡ cond (id_eq k id) true before → after ≡ list_any (accepts_it id) (events_alone (take (i + 1) E))
accepted_more E i x k id answer path before after lt at is old now =
    let any = list_any (accepts_it id) (events_alone (take i E)) in
    now ∙ ap (cond (id_eq k id) true) old ∙ sym (any_more id E i x lt at ∙ ap (λ (e : ClientEvent). cond (accepts_it id e) true any) is)

-- an event more that accepts nothing
pub others_more : (E : List EventAt) (i : ℕ) (x : EventAt) (id : Id) (before : Bool) → i < length E → x ≡ get_or E i x → accepts_it id x.event ≡ false
    → before ≡ list_any (accepts_it id) (events_alone (take i E)) → before ≡ list_any (accepts_it id) (events_alone (take (i + 1) E))
others_more E i x id before lt at is old =
    old ∙ sym (any_more id E i x lt at ∙ ap (λ (b : Bool). cond b true (list_any (accepts_it id) (events_alone (take i E)))) is)

-- a request that was sent is open where no event accepts an answer to it
pub open_is : (E : List ClientEvent) (e : ClientEvent) (id : Id) (command : List ℕ) (b : Bool) → e ≡ Sent id command
    → list_any (accepts_it id) E ≡ b → open_in E e ≡ cond b [] (id ∷ [])
open_is E e id command b is any = ap (open_in E) is ∙ ap (λ (x : Bool). cond x [] (id ∷ [])) any
