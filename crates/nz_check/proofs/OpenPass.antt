-- The pass over the open lines.
use Rattle.std.proofs.Common.{◌≡◌, ℕ, ◌+◌, ◌<◌, Bool, true, false, List, [], ◌∷◌, length, take, drop, get_or, Some, None}
use Rattle.std.proofs.Common.{refl, sym, ap, ◌∙◌}
use Rattle.std.specs.Prelude.{not, slice_get, if◌then◌else◌}
use Rattle.std.specs.List.{list_any}
use Rattle.std.specs.Option.{option_eq}
use Rattle.indexmap.specs.IndexMap.{get}
use Rattle.nz_base.specs.Key.{id_eq}
use Rattle.nz_base.specs.declared.key.Id.{Id}
use Rattle.nz_machine.specs.declared.journal.Executed.{Executed}
use Rattle.nz_machine.specs.declared.client_event.ClientEvent.{ClientEvent}
use Rattle.nz_machine.specs.declared.client_event.ClientEvent.TheVariants.{Sent}
use Rattle.nz_text.specs.declared.printed.Printed.{Printed}
use Rattle.nz_text.specs.Text.{accepts_it, open_in, unanswered_in}
use Rattle.nz_check.specs.declared.events.Noted.{Noted}
use Rattle.nz_check.specs.declared.events.SentRequest.{SentRequest}
use Rattle.nz_check.specs.declared.verdict.Why.TheVariants.{Open}
use Rattle.nz_check.specs.declared.verdict.Verdict.{Verdict}
use Rattle.nz_check.specs.declared.verdict.Verdict.TheVariants.{No}
use Rattle.nz_check.specs.Checked.{whys, first_line, open_why}
use Rattle.nz_check.specs.Noting.{AreNoted}
use Rattle.nz_check.proofs.Meanings.{lets, fails, why_skips, why_is}
use Rattle.nz_check.proofs.Passes.{next_line, wrong_line, get_or_any, taken}
use Rattle.nz_check.proofs.Notes.{sent_is, unsent_is}
use Rattle.nz_check.proofs.Taking.{not_accepted}

-- what the open line at a place is compared with
due : (p : Printed) (ids U : List Id) (i place : ℕ) (d : Id) (r : Bool) → i < length ids → U ≡ unanswered_in p.events → place ≡ i
    → r ≡ option_eq id_eq (slice_get U place) (Some (get_or ids i d))
    → option_eq id_eq (slice_get (unanswered_in p.events) (length (take i ids))) (Some (get_or ids i d)) ≡ r
due p ids U i place d r lt is same test =
    ap (λ (n : ℕ). option_eq id_eq (slice_get (unanswered_in p.events) n) (Some (get_or ids i d))) (taken ids i lt ∙ sym same)
    ∙ ap (λ (l : List Id). option_eq id_eq (slice_get l place) (Some (get_or ids i d))) (sym is) ∙ sym test

pub open_next : (p : Printed) (ids U : List Id) (i n place : ℕ) (d : Id) (r : Bool) (answer : Verdict) → i < length ids → U ≡ unanswered_in p.events → place ≡ i
    → r ≡ option_eq id_eq (slice_get U place) (Some (get_or ids i d)) → r ≡ true
    → first_line n (whys (open_why p) (take i ids) (drop i ids)) ≡ answer
    → first_line (n + 1) (whys (open_why p) (take (i + 1) ids) (drop (i + 1) ids)) ≡ answer
open_next p ids U i n place d r answer lt is same test good inv =
    let x = get_or ids i d in
    let found = option_eq id_eq (slice_get (unanswered_in p.events) (length (take i ids))) (Some x) in
    next_line (open_why p) ids i n x answer lt (get_or_any ids i d x lt)
    (why_skips (not found) Open None None (lets found (due p ids U i place d r lt is same test ∙ good)) refl) inv

pub open_wrong : (p : Printed) (ids U : List Id) (i n place : ℕ) (d : Id) (r : Bool) (answer : Verdict) → i < length ids → U ≡ unanswered_in p.events → place ≡ i
    → r ≡ option_eq id_eq (slice_get U place) (Some (get_or ids i d)) → r ≡ false
    → first_line n (whys (open_why p) (take i ids) (drop i ids)) ≡ answer → No n Open ≡ answer
open_wrong p ids U i n place d r answer lt is same test bad inv =
    let x = get_or ids i d in
    let found = option_eq id_eq (slice_get (unanswered_in p.events) (length (take i ids))) (Some x) in
    wrong_line (open_why p) ids i n x Open answer lt (get_or_any ids i d x lt)
    (why_is (not found) Open None (fails found (due p ids U i place d r lt is same test ∙ bad))) inv

-- ---- the requests without acceptance

-- A request whose answer was accepted is not among those that are open.
pub closed : (H : List Executed) (E : List ClientEvent) (noted : Noted) (e : ClientEvent) (id : Id) (command : List ℕ) (s : SentRequest) → AreNoted H E noted
    → e ≡ Sent id command → Some s ≡ get id_eq noted.sent id → s.accepted ≡ true → open_in E e ≡ []
closed H E noted e id command s h is held accepted =
    let t = sent_is H E id s (sym (h.each id) ∙ sym held) in
    ap (open_in E) is ∙ ap (λ (b : Bool). if b then [] else id ∷ []) (sym t.accepted ∙ accepted)

pub open_still : (H : List Executed) (E : List ClientEvent) (noted : Noted) (e : ClientEvent) (id : Id) (command : List ℕ) → e ≡ Sent id command
    → list_any (accepts_it id) E ≡ false → open_in E e ≡ id ∷ []
open_still H E noted e id command is away = ap (open_in E) is ∙ ap (λ (b : Bool). if b then [] else id ∷ []) away

pub away_of_some : (H : List Executed) (E : List ClientEvent) (noted : Noted) (id : Id) (s : SentRequest) → AreNoted H E noted
    → Some s ≡ get id_eq noted.sent id → s.accepted ≡ false → list_any (accepts_it id) E ≡ false
away_of_some H E noted id s h held away = sym (sent_is H E id s (sym (h.each id) ∙ sym held)).accepted ∙ away

pub away_of_none : (H : List Executed) (E : List ClientEvent) (noted : Noted) (id : Id) → AreNoted H E noted
    → get id_eq noted.sent id ≡ None → list_any (accepts_it id) E ≡ false
away_of_none H E noted id h none = not_accepted H E noted id h (unsent_is H E id (sym (h.each id) ∙ none))
