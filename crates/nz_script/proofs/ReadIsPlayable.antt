-- What has been read so far can be run, line by line.
use Rattle.std.proofs.Common.{◌≡◌, ℕ, ◌+◌, ◌*◌, ◌<◌, ◌≤◌, Bool, true, false, cond, not, List, [], ◌∷◌, ◌++◌, Option, Some}
use Rattle.std.proofs.Common.{None, Result, Ok, Err, refl, sym, ap, subst, ◌∙◌, arith, length, take, length-append}
use Rattle.std.specs.Prelude.{◌&&◌, ◌==◌, nat_le, nat_lt, is_some, sum_by}
use Rattle.std.specs.List.{list_all}
use Rattle.std.proofs.Math.Nat.{mul-le-mul_right}
use Rattle.std.proofs.lemmas.Bool.{false≢true, eqb-true, eqb-false, and_from, and_parts, le-leb, leb-true}
use Rattle.std.proofs.lemmas.List.Folds.{list_all-append}
use Rattle.std.proofs.lemmas.List.Sums.{sum_by-append}
use Rattle.nz_base.specs.declared.actor.Actor.TheVariants as actor
use Rattle.nz_base.specs.declared.scenario.Request.{Request}
use Rattle.nz_base.specs.declared.scenario.Fault.{Fault}
use Rattle.nz_base.specs.declared.scenario.Scenario.{Scenario}
use Rattle.nz_base.specs.Actor.{is_within}
use Rattle.nz_base.specs.Cluster.{replica_count}
use Rattle.nz_base.specs.declared.limits.TheConstants.{MAX_TEXT}
use Rattle.nz_store.specs.Grammar.{spelling}
use Rattle.nz_store.proofs.Spellings.{reading_from_spells}
use Rattle.nz_script.specs.declared.faults.Kind.{Kind}
use Rattle.nz_script.specs.declared.faults.Kind.TheVariants as kind
use Rattle.nz_script.specs.declared.faults.ScriptFault.{ScriptFault}
use Rattle.nz_script.specs.declared.faults.ScriptFault.TheVariants.{Refusal}
use Rattle.nz_script.specs.declared.line_forms.Place.TheVariants as place
use Rattle.nz_script.specs.declared.line_forms.Head.{Head}
use Rattle.nz_script.specs.declared.line_forms.Head.TheVariants as head
use Rattle.nz_script.specs.declared.line_forms.Ask.{Ask}
use Rattle.nz_script.specs.declared.line_forms.Ask.TheVariants.{Put, Get, Del, Cas}
use Rattle.nz_script.specs.declared.line_forms.Form.{Form}
use Rattle.nz_script.specs.declared.line_forms.Form.TheVariants as form
use Rattle.nz_script.specs.declared.line_forms.Mishap.{Mishap}
use Rattle.nz_script.specs.declared.line_forms.Mishap.TheVariants as mishap
use Rattle.nz_script.specs.declared.line_forms.Verb.{Verb}
use Rattle.nz_script.specs.declared.line_forms.Verb.TheVariants as verb
use Rattle.nz_script.specs.declared.word.Word.{Word}
use Rattle.nz_script.specs.declared.word.Word.TheVariants as word
use Rattle.nz_script.specs.declared.line.Line.{Line}
use Rattle.nz_script.specs.declared.group.Group.{Group}
use Rattle.nz_script.specs.declared.draft.Draft.{Draft}
use Rattle.nz_script.specs.Shapes.{place_rank, forms_of, verb_place, tick}
use Rattle.nz_script.specs.Forms.{number_as, number_in, byte_in, actor_as, actor_in}
use Rattle.nz_script.specs.Lines.{line_of}
use Rattle.nz_script.specs.Drafts.{version_has, keeps_order, names_known, within_limits, knows, suits, is_known, all_known}
use Rattle.nz_script.specs.Drafts.{is_new_skew, all_within, has_number, has_room_for_line, has_room_for_requests, has_room_for_faults}
use Rattle.nz_script.specs.Drafts.{is_in_turn, command_asked, fault_in, with_words, first_draft, scenario_of}
use Rattle.nz_script.specs.Reading.{fault_of, draft_if_sound, taken_if_shaped, is_passed_over, draft_after_line, if_taken, scenario_from, scenario}
use Rattle.nz_script.specs.Bytes.{lines_in, tail_in}
use Rattle.nz_script.specs.Valid.{is_request, are_requests, requests_in_all, calls_known, IsRunnable}
use Rattle.nz_script.proofs.LineTests.{passed_forms, passed_room, command_is_valid}
use Rattle.nz_script.proofs.Blocks.{room_less}
use Rattle.nz_script.proofs.Sections as sections

-- ---- what a draft has

record IsHead (g : Group) (ticks : ℕ) : Type 0 where
  cluster : is_within 1 4 g.cluster ≡ true
  proxies : is_within 1 8 g.proxies ≡ true
  clients : is_within 1 64 g.clients ≡ true
  window : is_within 1 16 g.window ≡ true
  span : is_within 1 20000 ticks ≡ true

record HasRequests (scripts : List (List Request)) (block : List Request) (wait requests ticks : ℕ) : Type 0 where
  counted : sum_by length scripts + length block ≡ requests
  whole : list_all are_requests scripts ≡ true
  begun : are_requests block ≡ true
  waits : nat_le wait 20000 ≡ true
  room : has_room_for_requests requests ticks ≡ true

record HasFaults (g : Group) (requests : ℕ) (faults : List Fault) : Type 0 where
  room : has_room_for_faults requests (length faults) ≡ true
  calls : list_all (calls_known g) faults ≡ true

-- What is not there yet at a place, and whether each client has its script.
record IsAt (rank : ℕ) (g : Group) (scripts : List (List Request)) (block : List Request) (requests : ℕ) (faults : List Fault) : Type 0 where
  no_scripts : rank < 6 → scripts ≡ []
  no_block : rank < 6 → block ≡ []
  no_requests : rank < 6 → requests ≡ 0
  no_faults : rank < 8 → faults ≡ []
  unended : rank < 8 → length scripts < g.clients
  full : 8 ≤ rank → length scripts ≡ g.clients

record IsSound (d : Draft) : Type 0 where
  head : IsHead d.group d.ticks
  requests : HasRequests d.scripts d.block d.wait d.requests d.ticks
  faults : HasFaults d.group d.requests d.faults
  place : IsAt (place_rank d.place) d.group d.scripts d.block d.requests d.faults

sound_at_start : IsSound first_draft
sound_at_start = record {
  head = record { cluster = refl; proxies = refl; clients = refl; window = refl; span = refl };
  requests = record { counted = refl; whole = refl; begun = refl; waits = refl; room = refl };
  faults = record { room = refl; calls = refl };
  place =
      record {
        no_scripts = λ _. refl;
        no_block = λ _. refl;
        no_requests = λ _. refl;
        no_faults = λ _. refl;
        unended = λ _. omega arith;
        full = λ h. absurd (omega (arith, h));
      };
}

-- ---- what the tests of a line show

order_passed : (k a b c : Bool)
    → cond (not k) (Some kind.Syntax) (cond (not a) (Some kind.Order) (cond (not b) (Some kind.Name) (cond (not c) (Some kind.Limit) None))) ≡ None
    → a ≡ true
order_passed true true b c e = refl
order_passed true false b c e = absurd cc
order_passed false a b c e = absurd cc

names_passed : (k a b c : Bool)
    → cond (not k) (Some kind.Syntax) (cond (not a) (Some kind.Order) (cond (not b) (Some kind.Name) (cond (not c) (Some kind.Limit) None))) ≡ None
    → b ≡ true
names_passed true true true c e = refl
names_passed true true false c e = absurd cc
names_passed true false b c e = absurd cc
names_passed false a b c e = absurd cc

stands : (d : Draft) (l : Line) → fault_of d l ≡ None → place_rank d.place ≡ place_rank (verb_place l.verb)
stands d l e =
    eqb-true (place_rank d.place) (place_rank (verb_place l.verb))
    (and_parts (place_rank d.place == place_rank (verb_place l.verb)) (is_in_turn d l.verb l.words)
    (order_passed (version_has d.version l.verb) (keeps_order d l) (names_known d l) (within_limits d l) e)).0

number_fits : (low high most : ℕ) (w : Word) (more : Bool) → high ≤ most → (has_number low high w && more) ≡ true
    → is_within low high (number_as most (Some w)) ≡ true
number_fits low high most (word.Number n) more h e =
    let p = and_parts (is_within low high n) more e in
    subst (λ (m : ℕ). is_within low high m ≡ true)
    (sym (sections.kept n most (omega (arith, h, leb-true n high (and_parts (nat_le low n) (nat_le n high) p.0).1)))) p.0
number_fits low high most (word.Units b n) more h e = absurd (false≢true e)
number_fits low high most (word.Named a) more h e = absurd (false≢true e)
number_fits low high most word.Everyone more h e = absurd (false≢true e)
number_fits low high most (word.Kind k) more h e = absurd (false≢true e)
number_fits low high most (word.Text t) more h e = absurd (false≢true e)
number_fits low high most word.Nothing more h e = absurd (false≢true e)

-- ---- the lines of the head

abbrev all_number : ℕ → ℕ → List Word → Bool
all_number low high words = all_within (form.Number low high ∷ []) words

-- a number of the head, in its range
abbrev in_head : Head → List Word → Bool
in_head h words = all_within (forms_of (verb.Head h)) words

byte_fits : (low high : ℕ) (words : List Word) → high ≤ 255 → all_number low high words ≡ true → is_within low high (byte_in 0 words) ≡ true
byte_fits low high [] h e = absurd (false≢true e)
byte_fits low high (w ∷ words) h e = number_fits low high 255 w true h e

ticks_fit : (words : List Word) → all_number 1 20000 words ≡ true → is_within 1 20000 (number_in 0 words) ≡ true
ticks_fit [] e = absurd (false≢true e)
ticks_fit (w ∷ words) e = number_fits 1 20000 4294967295 w true (omega arith) e

blank_calls : (g : Group) (faults : List Fault) → faults ≡ [] → list_all (calls_known g) faults ≡ true
blank_calls g faults e = ap (λ (fs : List Fault). list_all (calls_known g) fs) e

-- in the head nothing but the head is read
at_head : (rank next : ℕ) (g h : Group) (scripts : List (List Request)) (block : List Request) (requests : ℕ) (faults : List Fault) → rank < 6
    → next < 7 → 1 ≤ h.clients
    → IsAt rank g scripts block requests faults → IsAt next h scripts block requests faults
at_head rank next g h scripts block requests faults low small some p = record {
  no_scripts = λ _. p.no_scripts low;
  no_block = λ _. p.no_block low;
  no_requests = λ _. p.no_requests low;
  no_faults = λ _. p.no_faults (omega (arith, low));
  unended = λ _. subst (λ (ss : List (List Request)). length ss < h.clients) (sym (p.no_scripts low)) (omega (arith, some));
  full = λ high. absurd (omega (arith, small, high));
}

low_rank : (d : Draft) (n : ℕ) → place_rank d.place ≡ n → n < 6 → place_rank d.place < 6
low_rank d n e h = omega (arith, e, h)

least : (low high n : ℕ) → is_within low high n ≡ true → low ≤ n
least low high n e = leb-true low n (and_parts (nat_le low n) (nat_le n high) e).0

blank_room : (r t u : ℕ) → r ≡ 0 → has_room_for_requests r t ≡ true → has_room_for_requests r u ≡ true
blank_room r t u e h = ap (λ (n : ℕ). has_room_for_requests n u) e ∙ and_from _ _ refl (le-leb (0 * u) 2000000 (omega arith))

after_ticks : (two : Bool) → place_rank (cond two place.Window place.Between) < 7
after_ticks true = omega arith
after_ticks false = omega arith

any_window : (n : ℕ) → is_within 2 16 n ≡ true → is_within 1 16 n ≡ true
any_window n e =
    let p = and_parts (nat_le 2 n) (nat_le n 16) e in
    and_from _ _ (le-leb 1 n (omega (arith, leb-true 2 n p.0))) p.1

head_kept : (d : Draft) (h : Head) (words : List Word) → IsSound d
    → place_rank d.place ≡ place_rank (verb_place (verb.Head h)) → in_head h words ≡ true → IsSound (with_words d (verb.Head h) words)
head_kept d head.Version words p e fits = record {
  head = p.head;
  requests = p.requests;
  faults = p.faults;
  place =
      at_head (place_rank d.place) 1 d.group d.group d.scripts d.block d.requests d.faults (low_rank d 0 e (omega arith))
      (omega arith) (least 1 64 d.group.clients p.head.clients) p.place;
}
head_kept d head.Faulty words p e fits =
    let low = low_rank d 1 e (omega arith) in
    let g : Group = record d.group { cluster = byte_in 0 words } in
    record {
      head =
          record {
            cluster = byte_fits 1 4 words (omega arith) fits;
            proxies = p.head.proxies;
            clients = p.head.clients;
            window = p.head.window;
            span = p.head.span;
          };
      requests = p.requests;
      faults = record { room = p.faults.room; calls = blank_calls g d.faults (p.place.no_faults (omega (arith, low))) };
      place =
          at_head (place_rank d.place) 2 d.group g d.scripts d.block d.requests d.faults low (omega arith)
          (least 1 64 d.group.clients p.head.clients) p.place;
    }
head_kept d head.Proxies words p e fits =
    let low = low_rank d 2 e (omega arith) in
    let g : Group = record d.group { proxies = byte_in 0 words } in
    record {
      head =
          record {
            cluster = p.head.cluster;
            proxies = byte_fits 1 8 words (omega arith) fits;
            clients = p.head.clients;
            window = p.head.window;
            span = p.head.span;
          };
      requests = p.requests;
      faults = record { room = p.faults.room; calls = blank_calls g d.faults (p.place.no_faults (omega (arith, low))) };
      place =
          at_head (place_rank d.place) 3 d.group g d.scripts d.block d.requests d.faults low (omega arith)
          (least 1 64 d.group.clients p.head.clients) p.place;
    }
head_kept d head.Clients words p e fits =
    let low = low_rank d 3 e (omega arith) in
    let g : Group = record d.group { clients = byte_in 0 words } in
    let clients = byte_fits 1 64 words (omega arith) fits in
    record {
      head = record { cluster = p.head.cluster; proxies = p.head.proxies; clients = clients; window = p.head.window; span = p.head.span };
      requests = p.requests;
      faults = record { room = p.faults.room; calls = blank_calls g d.faults (p.place.no_faults (omega (arith, low))) };
      place = at_head (place_rank d.place) 4 d.group g d.scripts d.block d.requests d.faults low (omega arith) (least 1 64 (byte_in 0 words) clients) p.place;
    }
head_kept d head.Ticks words p e fits =
    let low = low_rank d 4 e (omega arith) in
    record {
      head = record { cluster = p.head.cluster; proxies = p.head.proxies; clients = p.head.clients; window = p.head.window; span = ticks_fit words fits };
      requests =
          record {
            counted = p.requests.counted;
            whole = p.requests.whole;
            begun = p.requests.begun;
            waits = p.requests.waits;
            room = blank_room d.requests d.ticks (number_in 0 words) (p.place.no_requests low) p.requests.room;
          };
      faults = p.faults;
      place =
          at_head (place_rank d.place) (place_rank (cond (d.version == 2) place.Window place.Between)) d.group d.group
          d.scripts d.block d.requests d.faults low (after_ticks (d.version == 2)) (least 1 64 d.group.clients p.head.clients) p.place;
    }
head_kept d head.Window words p e fits =
    let low = low_rank d 5 e (omega arith) in
    let g : Group = record d.group { window = byte_in 0 words } in
    record {
      head =
          record {
            cluster = p.head.cluster;
            proxies = p.head.proxies;
            clients = p.head.clients;
            window = any_window (byte_in 0 words) (byte_fits 2 16 words (omega arith) fits);
            span = p.head.span;
          };
      requests = p.requests;
      faults = record { room = p.faults.room; calls = blank_calls g d.faults (p.place.no_faults (omega (arith, low))) };
      place =
          at_head (place_rank d.place) 6 d.group g d.scripts d.block d.requests d.faults low (omega arith)
          (least 1 64 d.group.clients p.head.clients) p.place;
    }

-- ---- the lines of a block

-- after the head, where the same has been read
moved : (rank next : ℕ) (g : Group) (scripts : List (List Request)) (block : List Request) (requests : ℕ) (faults : List Fault) → 6 ≤ next
    → (next < 8 → rank < 8) → (8 ≤ next → 8 ≤ rank)
    → IsAt rank g scripts block requests faults → IsAt next g scripts block requests faults
moved rank next g scripts block requests faults high lasts full p = record {
  no_scripts = λ low. absurd (omega (arith, low, high));
  no_block = λ low. absurd (omega (arith, low, high));
  no_requests = λ low. absurd (omega (arith, low, high));
  no_faults = λ low. p.no_faults (lasts low);
  unended = λ low. p.unended (lasts low);
  full = λ big. p.full (full big);
}

-- in a block, with one request more
asked : (rank : ℕ) (g : Group) (scripts : List (List Request)) (block more : List Request) (requests next : ℕ) (faults : List Fault) → rank ≡ 7
    → IsAt rank g scripts block requests faults → IsAt rank g scripts more next faults
asked rank g scripts block more requests next faults e p = record {
  no_scripts = λ low. absurd (omega (arith, low, e));
  no_block = λ low. absurd (omega (arith, low, e));
  no_requests = λ low. absurd (omega (arith, low, e));
  no_faults = p.no_faults;
  unended = p.unended;
  full = p.full;
}

zero_room : (r : ℕ) → has_room_for_faults r 0 ≡ true
zero_room r = and_from _ _ refl (le-leb (r * 0) 200000 (omega arith))

no_faults_room : (r : ℕ) (faults : List Fault) → faults ≡ [] → has_room_for_faults r (length faults) ≡ true
no_faults_room r faults e = ap (λ (fs : List Fault). has_room_for_faults r (length fs)) e ∙ zero_room r

one_more : (scripts : List (List Request)) (block : List Request) (q : Request) (requests : ℕ)
    → sum_by length scripts + length block ≡ requests → sum_by length scripts + length (block ++ q ∷ []) ≡ requests + 1
one_more scripts block q requests e = omega (arith, e, length-append block (q ∷ []))

ask_kept : (d : Draft) (a : Ask) (words : List Word) → IsSound d → place_rank d.place ≡ 7
    → all_within (forms_of (verb.Ask a)) words ≡ true → has_room_for_line d (verb.Ask a) ≡ true → IsSound (with_words d (verb.Ask a) words)
ask_kept d a words p e fits room =
    let c = command_asked a words in
    let q : Request = record { wait = d.wait; command = spelling c } in
    let back = reading_from_spells (spelling c) c (record { valid = command_is_valid a words fits; whole = refl }) in
    record {
      head = p.head;
      requests = record {
        counted = one_more d.scripts d.block q d.requests p.requests.counted;
        whole = p.requests.whole;
        begun =
            list_all-append is_request d.block (q ∷ [])
            ∙ and_from _ _ p.requests.begun (and_from _ _ (and_from _ _ p.requests.waits (ap is_some back)) refl);
        waits = refl;
        room = room;
      };
      faults = record { room = no_faults_room (d.requests + 1) d.faults (p.place.no_faults (omega (arith, e))); calls = p.faults.calls };
      place = asked (place_rank d.place) d.group d.scripts d.block (d.block ++ q ∷ []) d.requests (d.requests + 1) d.faults e p.place;
    }

wait_kept : (d : Draft) (words : List Word) → IsSound d → all_within (forms_of verb.Wait) words ≡ true → IsSound (with_words d verb.Wait words)
wait_kept d words p fits =
    let q = p.requests in
    record {
      head = p.head;
      requests =
          record {
            counted = q.counted;
            whole = q.whole;
            begun = q.begun;
            waits = (and_parts (nat_le 1 (number_in 0 words)) (nat_le (number_in 0 words) 20000) (ticks_fit words fits)).1;
            room = q.room;
          };
      faults = p.faults;
      place = p.place;
    }

all_counted : (scripts : List (List Request)) (block : List Request) (requests : ℕ)
    → sum_by length scripts + length block ≡ requests → sum_by length (scripts ++ block ∷ []) + 0 ≡ requests
all_counted scripts block requests e = omega (arith, e, sum_by-append length scripts (block ∷ []))

-- after a block
closed : (g : Group) (scripts : List (List Request)) (block : List Request) (requests : ℕ) (faults : List Fault) (last : Bool)
    → (length scripts + 1 == g.clients) ≡ last → length scripts < g.clients → faults ≡ []
    → IsAt (place_rank (cond last place.Mishaps place.Between)) g (scripts ++ block ∷ []) [] requests faults
closed g scripts block requests faults true e lasts none =
    let all = eqb-true (length scripts + 1) g.clients e in
    record {
      no_scripts = λ low. absurd (omega (arith, low));
      no_block = λ low. absurd (omega (arith, low));
      no_requests = λ low. absurd (omega (arith, low));
      no_faults = λ _. none;
      unended = λ low. absurd (omega (arith, low));
      full = λ _. length-append scripts (block ∷ []) ∙ all;
    }
closed g scripts block requests faults false e lasts none = record {
  no_scripts = λ low. absurd (omega (arith, low));
  no_block = λ low. absurd (omega (arith, low));
  no_requests = λ low. absurd (omega (arith, low));
  no_faults = λ _. none;
  unended = λ _. omega (arith, lasts, eqb-false (length scripts + 1) g.clients e, length-append scripts (block ∷ []));
  full = λ high. absurd (omega (arith, high));
}

end_kept : (d : Draft) (words : List Word) → IsSound d → place_rank d.place ≡ 7 → IsSound (with_words d verb.End words)
end_kept d words p e = record {
  head = p.head;
  requests = record {
    counted = all_counted d.scripts d.block d.requests p.requests.counted;
    whole = list_all-append are_requests d.scripts (d.block ∷ []) ∙ and_from _ _ p.requests.whole (and_from _ _ p.requests.begun refl);
    begun = refl;
    waits = refl;
    room = p.requests.room;
  };
  faults = p.faults;
  place =
      closed d.group d.scripts d.block d.requests d.faults (length d.scripts + 1 == d.group.clients) refl
      (p.place.unended (omega (arith, e))) (p.place.no_faults (omega (arith, e)));
}

-- ---- faults

some_replica : (g : Group) → 0 < replica_count g.cluster
some_replica g = omega arith

first_known : (g : Group) → knows g (actor.Replica 0) ≡ true
first_known g = grind (arith, some_replica g)

actor_known : (g : Group) (f : Form) (w : Word) → is_known g f w ≡ true → knows g (actor_as (Some w)) ≡ true
actor_known g f (word.Named a) e = (and_parts (suits f a) (knows g a) e).1
actor_known g f (word.Number n) e = first_known g
actor_known g f (word.Units b n) e = first_known g
actor_known g f word.Everyone e = first_known g
actor_known g f (word.Kind k) e = first_known g
actor_known g f (word.Text t) e = first_known g
actor_known g f word.Nothing e = first_known g

called_known : (g : Group) (f h : Form) (words : List Word) → all_known g (f ∷ h ∷ []) words ≡ true → knows g (actor_in 0 words) ≡ true
called_known g f h [] e = first_known g
called_known g f h (w ∷ words) e = actor_known g f w (and_parts (is_known g f w) (all_known g (h ∷ []) words) e).0

fault_known : (g : Group) (m : Mishap) (words : List Word) → all_known g (forms_of (verb.Mishap m)) words ≡ true → calls_known g (fault_in m words) ≡ true
fault_known g mishap.Drop words e = refl
fault_known g mishap.Hold words e = refl
fault_known g mishap.Twice words e = refl
fault_known g mishap.Cut words e = refl
fault_known g mishap.Block words e = refl
fault_known g mishap.Crash words e = called_known g form.Server tick words e
fault_known g mishap.Restart words e = called_known g form.Server tick words e
fault_known g mishap.Alarm words e = called_known g form.Replica tick words e

faulted : (rank : ℕ) (g : Group) (scripts : List (List Request)) (block : List Request) (requests : ℕ) (faults more : List Fault) → rank ≡ 8
    → IsAt rank g scripts block requests faults → IsAt rank g scripts block requests more
faulted rank g scripts block requests faults more e p = record {
  no_scripts = p.no_scripts;
  no_block = p.no_block;
  no_requests = p.no_requests;
  no_faults = λ low. absurd (omega (arith, low, e));
  unended = p.unended;
  full = p.full;
}

mishap_kept : (d : Draft) (m : Mishap) (words : List Word) → IsSound d → place_rank d.place ≡ 8
    → all_known d.group (forms_of (verb.Mishap m)) words ≡ true → has_room_for_line d (verb.Mishap m) ≡ true
    → IsSound (with_words d (verb.Mishap m) words)
mishap_kept d m words p e known room =
    let f = fault_in m words in
    record {
      head = p.head;
      requests = p.requests;
      faults = record {
        room = ap (has_room_for_faults d.requests) (length-append d.faults (f ∷ [])) ∙ room;
        calls = list_all-append (calls_known d.group) d.faults (f ∷ []) ∙ and_from _ _ p.faults.calls (and_from _ _ (fault_known d.group m words known) refl);
      };
      place = faulted (place_rank d.place) d.group d.scripts d.block d.requests d.faults (d.faults ++ f ∷ []) e p.place;
    }

-- ---- every line

ask_rank : (a : Ask) → place_rank (verb_place (verb.Ask a)) ≡ 7
ask_rank Put = refl
ask_rank Get = refl
ask_rank Del = refl
ask_rank Cas = refl

mishap_rank : (m : Mishap) → place_rank (verb_place (verb.Mishap m)) ≡ 8
mishap_rank mishap.Drop = refl
mishap_rank mishap.Hold = refl
mishap_rank mishap.Twice = refl
mishap_rank mishap.Cut = refl
mishap_rank mishap.Block = refl
mishap_rank mishap.Crash = refl
mishap_rank mishap.Restart = refl
mishap_rank mishap.Alarm = refl

kept : (d : Draft) (v : Verb) (words : List Word) → IsSound d → fault_of d (record { verb = v; words = words }) ≡ None → IsSound (with_words d v words)
kept d (verb.Head h) words p e =
    head_kept d h words p (stands d (record { verb = verb.Head h; words = words }) e) (passed_forms d (record { verb = verb.Head h; words = words }) e)
kept d verb.Skew words p e = record { head = p.head; requests = p.requests; faults = p.faults; place = p.place }
kept d verb.Client words p e =
    let at = stands d (record { verb = verb.Client; words = words }) e in
    record {
      head = p.head;
      requests = p.requests;
      faults = p.faults;
      place =
          moved (place_rank d.place) 7 d.group d.scripts d.block d.requests d.faults (omega arith)
          (λ _. omega (arith, at)) (λ big. absurd (omega (arith, big))) p.place;
    }
kept d (verb.Ask a) words p e =
    let line : Line = record { verb = verb.Ask a; words = words } in
    ask_kept d a words p (stands d line e ∙ ask_rank a) (passed_forms d line e) (passed_room d line e)
kept d verb.Wait words p e = wait_kept d words p (passed_forms d (record { verb = verb.Wait; words = words }) e)
kept d verb.End words p e = end_kept d words p (stands d (record { verb = verb.End; words = words }) e)
kept d (verb.Mishap m) words p e =
    let line : Line = record { verb = verb.Mishap m; words = words } in
    mishap_kept d m words p (stands d line e ∙ mishap_rank m)
    (and_parts (all_known d.group (forms_of (verb.Mishap m)) words) (is_new_skew d (verb.Mishap m) words)
    (names_passed (version_has d.version line.verb) (keeps_order d line) (names_known d line) (within_limits d line) e)).0 (passed_room d line e)
kept d verb.Done words p e =
    let at = stands d (record { verb = verb.Done; words = words }) e in
    record {
      head = p.head;
      requests = p.requests;
      faults = p.faults;
      place =
          moved (place_rank d.place) 9 d.group d.scripts d.block d.requests d.faults (omega arith)
          (λ low. absurd (omega (arith, low))) (λ _. omega (arith, at)) p.place;
    }

-- ---- every text

abbrev draft_of : Draft → Result Draft Kind → Draft
draft_of d (Ok next) = next
draft_of d (Err kind) = d

taken_kept : (d next : Draft) (v : Verb) (words : List Word) (fault : Option Kind)
    → fault_of d (record { verb = v; words = words }) ≡ fault → IsSound d
    → draft_if_sound d (record { verb = v; words = words }) fault ≡ Ok next → IsSound next
taken_kept d next v words None e p h = subst IsSound (ap (draft_of d) h) (kept d v words p e)
taken_kept d next v words (Some kind) e p h = absurd cc

shaped_kept : (d next : Draft) (line : Option Line) → IsSound d → taken_if_shaped d line ≡ Ok next → IsSound next
shaped_kept d next None p h = absurd cc
shaped_kept d next (Some line) p h = taken_kept d next line.verb line.words (fault_of d line) refl p h

over_kept : (d next : Draft) (bytes : List ℕ) (over : Bool) → IsSound d → cond over (Ok d) (taken_if_shaped d (line_of bytes)) ≡ Ok next → IsSound next
over_kept d next bytes true p h = subst IsSound (ap (draft_of d) h) p
over_kept d next bytes false p h = shaped_kept d next (line_of bytes) p h

step_kept : (d next : Draft) (bytes : List ℕ) → IsSound d → draft_after_line d bytes ≡ Ok next → IsSound next
unfolding draft_after_line
step_kept d next bytes p h = over_kept d next bytes (is_passed_over bytes) p h

fault_room_of_fewer : (a b n : ℕ) → a ≤ b → has_room_for_faults b n ≡ true → has_room_for_faults a n ≡ true
fault_room_of_fewer a b n h e =
    let p = and_parts (nat_le n 1000) (nat_le (b * n) 200000) e in
    and_from _ _ p.0 (le-leb (a * n) 200000 (omega (arith, mul-le-mul_right n h, leb-true (b * n) 200000 p.1)))

is_same : (n m : ℕ) → n ≡ m → (n == m) ≡ true
is_same n m e = grind (arith, e)

runnable : (d : Draft) → IsSound d → place_rank d.place ≡ 9 → IsRunnable (scenario_of d)
runnable d p e =
    let few : requests_in_all d.scripts ≤ d.requests = omega (arith, p.requests.counted) in
    record {
      group =
          and_from _ _ (and_from _ _ (and_from _ _ p.head.cluster p.head.proxies)
          (and_from _ _ p.head.clients p.head.span))
          (and_from _ _ p.head.window (is_same (length d.scripts) d.group.clients (p.place.full (omega (arith, e)))));
      requests = p.requests.whole;
      few =
          and_from _ _ (room_less (requests_in_all d.scripts) d.requests d.ticks few p.requests.room)
          (fault_room_of_fewer (requests_in_all d.scripts) d.requests (length d.faults) few p.faults.room);
      calls = p.faults.calls;
    }

abbrev scenario_in : Scenario → Result Scenario ScriptFault → Scenario
scenario_in s (Ok found) = found
scenario_in s (Err fault) = s

ended : (n : ℕ) (d : Draft) (s : Scenario) (long whole ends : Bool) → (place_rank d.place == 9) ≡ ends → IsSound d
    → cond long (Err (Refusal n kind.Limit))
    (cond (not whole) (Err (Refusal n kind.Syntax)) (cond ends (Ok (scenario_of d)) (Err (Refusal n kind.Order)))) ≡ Ok s → IsRunnable s
ended n d s true whole ends at p e = absurd cc
ended n d s false false ends at p e = absurd cc
ended n d s false true true at p e = subst IsRunnable (ap (scenario_in s) e) (runnable d p (eqb-true (place_rank d.place) 9 at))
ended n d s false true false at p e = absurd cc

next_runnable : (n : ℕ) (s : Scenario) (further : Draft → Result Scenario ScriptFault) (answer : Result Draft Kind)
    → ((next : Draft) → answer ≡ Ok next → further next ≡ Ok s → IsRunnable s) → if_taken n further answer ≡ Ok s → IsRunnable s
next_runnable n s further (Ok next) later e = later next refl e
next_runnable n s further (Err kind) later e = absurd cc

reading_runnable : (long : Bool) (tail : List ℕ) (n : ℕ) (d : Draft) (lines : List (List ℕ)) (s : Scenario)
    → IsSound d → scenario_from long tail n d lines ≡ Ok s → IsRunnable s
reading_runnable long tail n d [] s p e = ended n d s long (length tail == 0) (place_rank d.place == 9) refl p e
reading_runnable long tail n d (line ∷ lines) s p e =
    next_runnable n s (λ next. scenario_from long tail (n + 1) next lines) (draft_after_line d line)
    (λ next h f. reading_runnable long tail (n + 1) next lines s (step_kept d next line p h) f) e

pub read_runnable : (bytes : List ℕ) (s : Scenario) → scenario bytes ≡ Ok s → IsRunnable s
unfolding scenario
read_runnable bytes s e =
    reading_runnable (nat_lt MAX_TEXT (length bytes)) (tail_in (take MAX_TEXT bytes)) 1 first_draft
    (lines_in (take MAX_TEXT bytes)) s sound_at_start e

-- ---- how long a text is

long_after : (n : ℕ) (s : Scenario) (further : Draft → Result Scenario ScriptFault) (answer : Result Draft Kind)
    → ((next : Draft) → further next ≡ Ok s → ⊥) → if_taken n further answer ≡ Ok s → ⊥
long_after n s further (Ok next) later e = later next e
long_after n s further (Err kind) later e = absurd cc

long_refused : (tail : List ℕ) (n : ℕ) (d : Draft) (lines : List (List ℕ)) (s : Scenario) → scenario_from true tail n d lines ≡ Ok s → ⊥
long_refused tail n d [] s e = absurd cc
long_refused tail n d (line ∷ lines) s e =
    long_after n s (λ next. scenario_from true tail (n + 1) next lines) (draft_after_line d line)
    (λ next f. long_refused tail (n + 1) next lines s f) e

not_above : (n m : ℕ) → nat_lt n m ≡ false → m ≤ n
not_above n m e = grind (arith, e)

short_by : (bytes : List ℕ) (s : Scenario) (long : Bool) → nat_lt MAX_TEXT (length bytes) ≡ long
    → scenario_from long (tail_in (take MAX_TEXT bytes)) 1 first_draft (lines_in (take MAX_TEXT bytes)) ≡ Ok s → length bytes ≤ MAX_TEXT
short_by bytes s true is e = absurd (long_refused (tail_in (take MAX_TEXT bytes)) 1 first_draft (lines_in (take MAX_TEXT bytes)) s e)
short_by bytes s false is e = not_above MAX_TEXT (length bytes) is

pub read_short : (bytes : List ℕ) (s : Scenario) → scenario bytes ≡ Ok s → length bytes ≤ MAX_TEXT
unfolding scenario
read_short bytes s e = short_by bytes s (nat_lt MAX_TEXT (length bytes)) refl e
