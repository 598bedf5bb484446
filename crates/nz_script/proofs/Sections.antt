-- The head and the skews of a valid scenario are taken in, line by line.
use Rattle.std.proofs.Common.{◌≡◌, ℕ, suc, ◌≤◌, Bool, true, false, cond, not, List, [], ◌∷◌, ◌++◌, Some}
use Rattle.std.proofs.Common.{None, refl, sym, ap, subst, ◌∙◌, arith, length, map, append_assoc}
use Rattle.std.specs.Prelude.{◌&&◌, ◌==◌, nat_le, ℤ, pos, negsuc}
use Rattle.std.specs.List.{list_all}
use Rattle.std.proofs.lemmas.Bool.{false≢true, eqb-true, eqb-false, and_from, and_parts, le-leb, leb-true, ltb-true, not-true, not_from_false, or_parts}
use Rattle.std.proofs.lemmas.List.{append-nil}
use Rattle.nz_base.specs.declared.actor.Actor.{Actor}
use Rattle.nz_base.specs.declared.actor.Actor.TheVariants as actor
use Rattle.nz_base.specs.declared.scenario.Skew.{Skew}
use Rattle.nz_base.specs.declared.scenario.Request.{Request}
use Rattle.nz_base.specs.declared.scenario.Fault.{Fault}
use Rattle.nz_base.specs.declared.scenario.Scenario.{Scenario}
use Rattle.nz_base.specs.Actor.{actor_eq, number_of, is_within}
use Rattle.nz_base.specs.Cluster.{replica_count}
use Rattle.nz_script.specs.declared.faults.Kind.TheVariants as kind
use Rattle.nz_script.specs.declared.line_forms.Place.{Place}
use Rattle.nz_script.specs.declared.line_forms.Place.TheVariants as place
use Rattle.nz_script.specs.declared.line_forms.Head.TheVariants as head
use Rattle.nz_script.specs.declared.line_forms.Verb.TheVariants as verb
use Rattle.nz_script.specs.declared.line_forms.Form.TheVariants as form
use Rattle.nz_script.specs.declared.word.Word.TheVariants as word
use Rattle.nz_script.specs.declared.line.Line.{Line}
use Rattle.nz_script.specs.declared.group.Group.{Group}
use Rattle.nz_script.specs.declared.draft.Draft.{Draft}
use Rattle.nz_script.specs.Shapes.{forms_of}
use Rattle.nz_script.specs.Forms.{units_as}
use Rattle.nz_script.specs.Drafts.{version_has, keeps_order, names_known, within_limits, knows, is_server, is_known}
use Rattle.nz_script.specs.Drafts.{all_known, all_within, has_units, has_skew, skew_in, with_words, first_draft}
use Rattle.nz_script.specs.Reading.{fault_of}
use Rattle.nz_script.specs.Texts.{number_line, version_of, window_lines, head_lines, units_of, skew_line}
use Rattle.nz_script.specs.Valid.{group_of_scenario, has_group, is_sound, are_apart}
use Rattle.nz_script.proofs.Readable.{IsReadAs, number_read, server_read, units_read}
use Rattle.nz_script.proofs.ReadAgain.{AreTaken, after_lines, taken-append, after-append}

-- a draft, part by part
abbrev pub a_draft : Place → ℕ → Group → ℕ → List Skew → List (List Request) → List Request → ℕ → ℕ → List Fault → Draft
a_draft p v g t ks ss b w r fs =
    record { place = p; version = v; group = g; ticks = t; skews = ks; scripts = ss; block = b; wait = w; requests = r; faults = fs }

all_passed : (k a b c : Bool) → k ≡ true → a ≡ true → b ≡ true → c ≡ true
    → cond (not k) (Some kind.Syntax) (cond (not a) (Some kind.Order) (cond (not b) (Some kind.Name) (cond (not c) (Some kind.Limit) None))) ≡ None
all_passed true true true true w x y z = refl
all_passed true true true false w x y z = absurd (false≢true z)
all_passed true true false c w x y z = absurd (false≢true y)
all_passed true false b c w x y z = absurd (false≢true x)
all_passed false a b c w x y z = absurd (false≢true w)

pub no_fault : (d : Draft) (l : Line) → version_has d.version l.verb ≡ true → keeps_order d l ≡ true
    → names_known d l ≡ true → within_limits d l ≡ true → fault_of d l ≡ None
no_fault d l w x y z = all_passed (version_has d.version l.verb) (keeps_order d l) (names_known d l) (within_limits d l) w x y z

-- f, the proxies, the clients, the ticks and the window are in range
pub record IsGroup (s : Scenario) : Type 0 where
  pub cluster : is_within 1 4 s.cluster ≡ true
  pub proxies : is_within 1 8 s.proxies ≡ true
  pub clients : is_within 1 64 s.clients ≡ true
  pub ticks : is_within 1 20000 s.ticks ≡ true
  pub window : is_within 1 16 s.window ≡ true
  pub scripts : (length s.scripts == s.clients) ≡ true

pub group_parts : (s : Scenario) → has_group s ≡ true → IsGroup s
group_parts s e =
    let p =
    and_parts ((is_within 1 4 s.cluster && is_within 1 8 s.proxies)
    && (is_within 1 64 s.clients && is_within 1 20000 s.ticks)) (is_within 1 16 s.window && (length s.scripts == s.clients)) e in
    let q = and_parts (is_within 1 4 s.cluster && is_within 1 8 s.proxies) (is_within 1 64 s.clients && is_within 1 20000 s.ticks) p.0 in
    let x = and_parts (is_within 1 4 s.cluster) (is_within 1 8 s.proxies) q.0 in
    let y = and_parts (is_within 1 64 s.clients) (is_within 1 20000 s.ticks) q.1 in
    let z = and_parts (is_within 1 16 s.window) (length s.scripts == s.clients) p.1 in
    record { cluster = x.0; proxies = x.1; clients = y.0; ticks = y.1; window = z.0; scripts = z.1 }

pub between_most : (l m n : ℕ) → is_within l m n ≡ true → n ≤ m
between_most l m n e = leb-true n m (and_parts (nat_le l n) (nat_le n m) e).1

limits : (a : Bool) → a ≡ true → (((a && true) && true) && true) ≡ true
limits a e = and_from _ _ (and_from _ _ (and_from _ _ e refl) refl) refl

-- A number that is not above the most is kept by the bound.
pub kept : (n most : ℕ) → n ≤ most → cond (nat_le n most) n most ≡ n
kept n most h = ap (λ (b : Bool). cond b n most) (le-leb n most h)

pub record IsTakenTo (d : Draft) (lines : List Line) (e : Draft) : Type 0 where
  pub taken : AreTaken d lines
  pub after : after_lines d lines ≡ e

pub then_taken : (d e f : Draft) (a b : List Line) → IsTakenTo d a e → IsTakenTo e b f → IsTakenTo d (a ++ b) f
then_taken d e f a b h k = record {
  taken = taken-append d a b h.taken (subst (λ (x : Draft). AreTaken x b) (sym h.after) k.taken);
  after = after-append d a b ∙ ap (λ (x : Draft). after_lines x b) h.after ∙ k.after;
}

-- ---- the head

-- the first five lines of a text of this version
abbrev pub five_lines : ℕ → Scenario → List Line
five_lines v s =
    number_line (verb.Head head.Version) v ∷
    number_line (verb.Head head.Faulty) s.cluster ∷
    number_line (verb.Head head.Proxies) s.proxies ∷
    number_line (verb.Head head.Clients) s.clients ∷
    number_line (verb.Head head.Ticks) s.ticks ∷ []

-- what has been read before each line of the head
abbrev draft_1 : ℕ → Draft
draft_1 v = with_words first_draft (verb.Head head.Version) (word.Number v ∷ [])

abbrev draft_2 : ℕ → Scenario → Draft
draft_2 v s = with_words (draft_1 v) (verb.Head head.Faulty) (word.Number s.cluster ∷ [])

abbrev draft_3 : ℕ → Scenario → Draft
draft_3 v s = with_words (draft_2 v s) (verb.Head head.Proxies) (word.Number s.proxies ∷ [])

abbrev draft_4 : ℕ → Scenario → Draft
draft_4 v s = with_words (draft_3 v s) (verb.Head head.Clients) (word.Number s.clients ∷ [])

-- after the first five lines: version 2 has its window next
abbrev draft_5 : ℕ → Group → ℕ → Draft
draft_5 v g t = a_draft (cond (v == 2) place.Window place.Between) v g t [] [] [] 0 0 []

abbrev a_group : ℕ → ℕ → ℕ → ℕ → Group
a_group f p c w = record { cluster = f; proxies = p; clients = c; window = w }

abbrev head_draft : ℕ → Scenario → Draft
head_draft v s = draft_5 v (a_group s.cluster s.proxies s.clients 1) s.ticks

five_taken : (v : ℕ) (s : Scenario) → is_within 1 2 v ≡ true → IsGroup s → AreTaken first_draft (five_lines v s)
five_taken v s e h = (
  (number_read 1 2 v (omega (arith, between_most 1 2 v e)), tt),
  no_fault first_draft (number_line (verb.Head head.Version) v) refl refl refl (limits (is_within 1 2 v) e),
  (
    (number_read 1 4 s.cluster (omega (arith, between_most 1 4 s.cluster h.cluster)), tt),
    no_fault (draft_1 v) (number_line (verb.Head head.Faulty) s.cluster) refl refl refl (limits (is_within 1 4 s.cluster) h.cluster),
    (
      (number_read 1 8 s.proxies (omega (arith, between_most 1 8 s.proxies h.proxies)), tt),
      no_fault (draft_2 v s) (number_line (verb.Head head.Proxies) s.proxies) refl refl refl (limits (is_within 1 8 s.proxies) h.proxies),
      (
        (number_read 1 64 s.clients (omega (arith, between_most 1 64 s.clients h.clients)), tt),
        no_fault (draft_3 v s) (number_line (verb.Head head.Clients) s.clients) refl refl refl (limits (is_within 1 64 s.clients) h.clients),
        (
          (number_read 1 20000 s.ticks (omega (arith, between_most 1 20000 s.ticks h.ticks)), tt),
          no_fault (draft_4 v s) (number_line (verb.Head head.Ticks) s.ticks) refl refl refl (limits (is_within 1 20000 s.ticks) h.ticks),
          tt,
        ),
      ),
    ),
  ),
)

-- a number as 8 bits hold it
abbrev byte : ℕ → ℕ
byte n = cond (nat_le n 255) n 255

abbrev wide : ℕ → ℕ
wide n = cond (nat_le n 4294967295) n 4294967295

five_after : (v : ℕ) (s : Scenario) → is_within 1 2 v ≡ true → IsGroup s → after_lines first_draft (five_lines v s) ≡ head_draft v s
five_after v s e h =
    ap (λ (n : ℕ). draft_5 n (a_group (byte s.cluster) (byte s.proxies) (byte s.clients) 1) (wide s.ticks)) (kept v 255 (omega (arith, between_most 1 2 v e)))
    ∙ ap (λ (n : ℕ). draft_5 v (a_group n (byte s.proxies) (byte s.clients) 1) (wide s.ticks))
    (kept s.cluster 255 (omega (arith, between_most 1 4 s.cluster h.cluster)))
    ∙ ap (λ (n : ℕ). draft_5 v (a_group s.cluster n (byte s.clients) 1) (wide s.ticks))
    (kept s.proxies 255 (omega (arith, between_most 1 8 s.proxies h.proxies)))
    ∙ ap (λ (n : ℕ). draft_5 v (a_group s.cluster s.proxies n 1) (wide s.ticks)) (kept s.clients 255 (omega (arith, between_most 1 64 s.clients h.clients)))
    ∙ ap (λ (n : ℕ). draft_5 v (a_group s.cluster s.proxies s.clients 1) n) (kept s.ticks 4294967295 (omega (arith, between_most 1 20000 s.ticks h.ticks)))

-- the whole head
abbrev headed : ℕ → ℕ → Scenario → Draft
headed v w s = a_draft place.Between v (a_group s.cluster s.proxies s.clients w) s.ticks [] [] [] 0 0 []

window_taken : (s : Scenario) (one : Bool) → (s.window == 1) ≡ one → IsGroup s
    → IsTakenTo (head_draft (cond one 1 2) s) (cond one [] (number_line (verb.Head head.Window) s.window ∷ [])) (headed (cond one 1 2) s.window s)
window_taken s true e h = record { taken = tt; after = ap (λ (w : ℕ). headed 1 w s) (sym (eqb-true s.window 1 e)) }
window_taken s false e h =
    let p = and_parts (nat_le 1 s.window) (nat_le s.window 16) h.window in
    let low : 2 ≤ s.window = omega (arith, leb-true 1 s.window p.0, eqb-false s.window 1 e) in
    let high : s.window ≤ 16 = leb-true s.window 16 p.1 in
    record {
      taken = (
        (number_read 2 16 s.window (omega (arith, high)), tt),
        no_fault (head_draft 2 s) (number_line (verb.Head head.Window) s.window) refl refl refl
            (limits (is_within 2 16 s.window) (and_from _ _ (le-leb 2 s.window low) p.1)),
        tt,
      );
      after = ap (λ (w : ℕ). headed 2 w s) (kept s.window 255 (omega (arith, high)));
    }

version_fits : (one : Bool) → is_within 1 2 (cond one 1 2) ≡ true
version_fits true = refl
version_fits false = refl

pub head_taken : (s : Scenario) → IsGroup s
    → IsTakenTo first_draft (head_lines s) (a_draft place.Between (version_of s.window) (group_of_scenario s) s.ticks [] [] [] 0 0 [])
head_taken s h =
    let v = version_of s.window in
    let fits = version_fits (s.window == 1) in
    then_taken first_draft (head_draft v s) (headed v s.window s) (five_lines v s) (window_lines s.window)
    (record { taken = five_taken v s fits h; after = five_after v s fits h }) (window_taken s (s.window == 1) refl h)

-- the actors of a group have numbers of at most two digits
pub record IsSmall (g : Group) : Type 0 where
  pub cluster : g.cluster ≤ 4
  pub proxies : g.proxies ≤ 8
  pub clients : g.clients ≤ 64

pub group_small : (s : Scenario) → IsGroup s → IsSmall (group_of_scenario s)
group_small s h =
    record {
      cluster = between_most 1 4 s.cluster h.cluster;
      proxies = between_most 1 8 s.proxies h.proxies;
      clients = between_most 1 64 s.clients h.clients;
    }

pub known_small : (g : Group) (a : Actor) → IsSmall g → knows g a ≡ true → number_of a ≤ 99
known_small g (actor.Replica r) h e = omega (arith, ltb-true r (replica_count g.cluster) e, h.cluster)
known_small g (actor.Proxy p) h e = omega (arith, ltb-true p g.proxies e, h.proxies)
known_small g (actor.Client c) h e = omega (arith, ltb-true c g.clients e, h.clients)

-- ---- skews

units_again : (z : ℤ) → has_units (units_of z) ≡ true → units_as (Some (units_of z)) ≡ z
units_again (pos n) e = rw e refl
units_again (negsuc n) e = rw e refl

units_are_read : (z : ℤ) → has_units (units_of z) ≡ true → IsReadAs form.Units (units_of z)
units_are_read (pos n) e = units_read false n (omega (arith, leb-true n 4611686018427387904 e))
units_are_read (negsuc n) e = units_read true (suc n) (omega (arith, leb-true (suc n) 4611686018427387904 e))

skew_again : (k : Skew) → has_units (units_of k.units) ≡ true → skew_in (skew_line k).words ≡ k
skew_again k e = ap (λ (z : ℤ). record { actor = k.actor; units = z }) (units_again k.units e)

eq-swapped : (n m : ℕ) → (n == m) ≡ false → (m == n) ≡ false
eq-swapped n m e = grind (arith, e)

apart_swapped : (a b : Actor) → actor_eq a b ≡ false → actor_eq b a ≡ false
apart_swapped (actor.Replica a) (actor.Replica b) e = eq-swapped a b e
apart_swapped (actor.Replica a) (actor.Proxy b) e = refl
apart_swapped (actor.Replica a) (actor.Client b) e = refl
apart_swapped (actor.Proxy a) (actor.Replica b) e = refl
apart_swapped (actor.Proxy a) (actor.Proxy b) e = eq-swapped a b e
apart_swapped (actor.Proxy a) (actor.Client b) e = refl
apart_swapped (actor.Client a) (actor.Replica b) e = refl
apart_swapped (actor.Client a) (actor.Proxy b) e = refl
apart_swapped (actor.Client a) (actor.Client b) e = eq-swapped a b e

-- who has no skew among many has none among the last, and is not the one in the middle
skew_not_there : (xs : List Skew) (k : Skew) (ks : List Skew) (a : Actor) → has_skew (xs ++ k ∷ ks) a ≡ false → actor_eq k.actor a ≡ false
skew_not_there [] k ks a e = (or_parts (actor_eq k.actor a) (has_skew ks a) e).0
skew_not_there (x ∷ xs) k ks a e = skew_not_there xs k ks a (or_parts (actor_eq x.actor a) (has_skew (xs ++ k ∷ ks) a) e).1

-- each is new to those before it
apart_new : (done : List Skew) (k : Skew) (ks : List Skew) → are_apart (done ++ k ∷ ks) ≡ true → has_skew done k.actor ≡ false
apart_new [] k ks e = refl
apart_new (x ∷ done) k ks e =
    let p = and_parts (not (has_skew (done ++ k ∷ ks) x.actor)) (are_apart (done ++ k ∷ ks)) e in
    let here : actor_eq x.actor k.actor ≡ false =
    apart_swapped k.actor x.actor (skew_not_there done k ks x.actor (not-true (has_skew (done ++ k ∷ ks) x.actor) p.0)) in
    rw here (apart_new done k ks p.1)

-- the parts of a sound skew
record IsSoundSkew (g : Group) (k : Skew) : Type 0 where
  known : all_known g (forms_of verb.Skew) (skew_line k).words ≡ true
  there : knows g k.actor ≡ true
  units : has_units (units_of k.units) ≡ true

sound_skew : (g : Group) (k : Skew) → is_sound g (skew_line k) ≡ true → IsSoundSkew g k
sound_skew g k e =
    let p = and_parts (all_known g (forms_of verb.Skew) (skew_line k).words) (all_within (forms_of verb.Skew) (skew_line k).words && true) e in
    let q = and_parts (is_server k.actor && knows g k.actor) (is_known g form.Units (units_of k.units) && true) p.0 in
    let r = and_parts (all_within (forms_of verb.Skew) (skew_line k).words) true p.1 in
    record { known = p.0; there = (and_parts (is_server k.actor) (knows g k.actor) q.0).1; units = (and_parts (has_units (units_of k.units)) true r.0).0 }

abbrev skewed : ℕ → Group → ℕ → List Skew → Draft
skewed v g t ks = a_draft place.Between v g t ks [] [] 0 0 []

pub skews_taken : (v : ℕ) (g : Group) (t : ℕ) (done ks : List Skew) → IsSmall g
    → list_all (λ k. is_sound g (skew_line k)) ks ≡ true → are_apart (done ++ ks) ≡ true
    → IsTakenTo (a_draft place.Between v g t done [] [] 0 0 []) (map skew_line ks) (a_draft place.Between v g t (done ++ ks) [] [] 0 0 [])
skews_taken v g t done [] small sound apart = record { taken = tt; after = ap (skewed v g t) (sym (append-nil done)) }
skews_taken v g t done (k ∷ ks) small sound apart =
    let p = and_parts (is_sound g (skew_line k)) (list_all (λ k. is_sound g (skew_line k)) ks) sound in
    let s = sound_skew g k p.0 in
    let again = skew_again k s.units in
    let more = skews_taken v g t (done ++ k ∷ []) ks small p.1 (ap are_apart (append_assoc done (k ∷ []) ks) ∙ apart) in
    record {
      taken = (
        (server_read k.actor (known_small g k.actor small s.there), (units_are_read k.units s.units, tt)),
        no_fault (skewed v g t done) (skew_line k) refl refl
            (and_from _ _ s.known (not_from_false (has_skew done k.actor) (apart_new done k ks apart))) (limits (has_units (units_of k.units)) s.units),
        subst (λ (x : Skew). AreTaken (skewed v g t (done ++ x ∷ [])) (map skew_line ks)) (sym again) more.taken,
      );
      after =
          ap (λ (x : Skew). after_lines (skewed v g t (done ++ x ∷ [])) (map skew_line ks)) again ∙ more.after
          ∙ ap (skewed v g t) (append_assoc done (k ∷ []) ks);
    }
