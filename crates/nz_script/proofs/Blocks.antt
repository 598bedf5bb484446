-- The blocks of the clients of a valid scenario are taken in, line by line.
use Rattle.std.proofs.Common.{◌≡◌, ℕ, ◌+◌, ◌*◌, ◌<◌, ◌≤◌, Bool, true, false, cond, not, List, [], ◌∷◌, ◌++◌, Option}
use Rattle.std.proofs.Common.{Some, None, refl, sym, ap, subst, ◌∙◌, arith, length, append_assoc, length-append}
use Rattle.std.specs.Prelude.{◌&&◌, ◌==◌, nat_le, nat_lt, is_some}
use Rattle.std.specs.List.{list_all}
use Rattle.std.proofs.Math.Nat.{mul-le-mul_right}
use Rattle.std.proofs.lemmas.Bool.{false≢true, eqb-true, eqb-false, and_from, and_parts, le-leb, leb-true, or_right}
use Rattle.std.proofs.lemmas.List.{append-nil}
use Rattle.std.proofs.lemmas.List.Sums.{sum_by-cons}
use Rattle.nz_base.specs.declared.actor.Actor.TheVariants as actor
use Rattle.nz_base.specs.declared.scenario.Skew.{Skew}
use Rattle.nz_base.specs.declared.scenario.Request.{Request}
use Rattle.nz_store.specs.declared.command.Command.{Command}
use Rattle.nz_store.specs.declared.command.Command.TheVariants as command
use Rattle.nz_store.specs.Grammar.{spelling}
use Rattle.nz_store.specs.Reading.{is_key_text, is_value_text, is_choice_text, has_spelling, command_of}
use Rattle.nz_store.proofs.Texts.{validity_is}
use Rattle.nz_store.proofs.Spellings.{spells_from_reading}
use Rattle.nz_script.specs.declared.line_forms.Place.TheVariants as place
use Rattle.nz_script.specs.declared.line_forms.Verb.TheVariants as verb
use Rattle.nz_script.specs.declared.line_forms.Form.TheVariants as form
use Rattle.nz_script.specs.declared.word.Word.TheVariants as word
use Rattle.nz_script.specs.declared.group.Group.{Group}
use Rattle.nz_script.specs.declared.draft.Draft.{Draft}
use Rattle.nz_script.specs.Forms.{choice_as}
use Rattle.nz_script.specs.Lines.{a_line}
use Rattle.nz_script.specs.Drafts.{is_known, has_choice, has_room_for_requests}
use Rattle.nz_script.specs.Texts.{number_line, command_line, choice_of, wait_lines, lines_of_command, request_lines, script_lines, scripts_lines}
use Rattle.nz_script.specs.Valid.{is_request, are_requests, requests_in_all}
use Rattle.nz_script.proofs.Readable.{IsReadAs, number_read, client_read, key_read, value_read, choice_read, nothing_read}
use Rattle.nz_script.proofs.Sections.{a_draft, kept, no_fault, IsTakenTo, then_taken, IsSmall}

-- a block that is open
abbrev pub open_block : ℕ → Group → ℕ → List Skew → List (List Request) → List Request → ℕ → ℕ → Draft
open_block v g t ks ss b w r = a_draft place.Block v g t ks ss b w r []

abbrev pub a_request : ℕ → Command → Request
a_request w c = record { wait = w; command = spelling c }

pub choice_again : (choice : Option (List ℕ)) → choice_as (Some (choice_of choice)) ≡ choice
choice_again None = refl
choice_again (Some v) = refl

known_choice : (g : Group) (choice : Option (List ℕ)) → is_known g form.Choice (choice_of choice) ≡ true
known_choice g None = refl
known_choice g (Some v) = refl

command_limits : (a room : Bool) → a ≡ true → room ≡ true → ((a && true) && room) ≡ true
command_limits a room e h = and_from _ _ (and_from _ _ e refl) h

pub choice_is_read : (choice : Option (List ℕ)) → is_choice_text choice ≡ true → IsReadAs form.Choice (choice_of choice)
choice_is_read None e = nothing_read
choice_is_read (Some v) e = choice_read v e

pub choice_within : (choice : Option (List ℕ)) → is_choice_text choice ≡ true → has_choice (choice_of choice) ≡ true
choice_within None e = refl
choice_within (Some v) e = e

-- a command's line, after its wait
pub command_taken : (v : ℕ) (g : Group) (t : ℕ) (ks : List Skew) (ss : List (List Request)) (b : List Request) (w r : ℕ) (c : Command)
    → has_spelling c ≡ true → has_room_for_requests (r + 1) t ≡ true
    → IsTakenTo (open_block v g t ks ss b w r) (command_line c ∷ []) (open_block v g t ks ss (b ++ a_request w c ∷ []) 0 (r + 1))
command_taken v g t ks ss b w r (command.Put key value) e room =
    let p = and_parts (is_key_text key) (is_value_text value) e in
    record {
      taken = (
        (key_read key p.0, (value_read value p.1, tt)),
        no_fault (open_block v g t ks ss b w r) (command_line (command.Put key value)) refl refl refl
            (command_limits _ _ (and_from _ _ p.0 (and_from _ _ p.1 refl)) room),
        tt,
      );
      after = refl;
    }
command_taken v g t ks ss b w r (command.Get key) e room =
    record {
      taken = (
        (key_read key e, tt),
        no_fault (open_block v g t ks ss b w r) (command_line (command.Get key)) refl refl refl (command_limits _ _ (and_from _ _ e refl) room),
        tt,
      );
      after = refl;
    }
command_taken v g t ks ss b w r (command.Del key) e room =
    record {
      taken = (
        (key_read key e, tt),
        no_fault (open_block v g t ks ss b w r) (command_line (command.Del key)) refl refl refl (command_limits _ _ (and_from _ _ e refl) room),
        tt,
      );
      after = refl;
    }
command_taken v g t ks ss b w r (command.Cas key old new) e room =
    let p = and_parts (is_key_text key && is_choice_text old) (is_choice_text new) e in
    let q = and_parts (is_key_text key) (is_choice_text old) p.0 in
    record {
      taken = (
        (key_read key q.0, (choice_is_read old q.1, (choice_is_read new p.1, tt))),
        no_fault (open_block v g t ks ss b w r) (command_line (command.Cas key old new)) refl refl
            (and_from _ _ (and_from _ _ (known_choice g old) (and_from _ _ (known_choice g new) refl)) refl)
            (command_limits _ _ (and_from _ _ q.0 (and_from _ _ (choice_within old q.1) (and_from _ _ (choice_within new p.1) refl))) room),
        tt,
      );
      after =
          ap (λ (o : Option (List ℕ)). open_block v g t ks ss
          (b ++ a_request w (command.Cas key o (choice_as (Some (choice_of new)))) ∷ []) 0 (r + 1)) (choice_again old)
          ∙ ap (λ (o : Option (List ℕ)). open_block v g t ks ss (b ++ a_request w (command.Cas key old o) ∷ []) 0 (r + 1)) (choice_again new);
    }

-- ---- a request, a block, all blocks

wait_line_taken : (v : ℕ) (g : Group) (t : ℕ) (ks : List Skew) (ss : List (List Request)) (b : List Request) (r n : ℕ) (zero_wait : Bool)
    → (n == 0) ≡ zero_wait → n ≤ 20000
    → IsTakenTo (open_block v g t ks ss b 0 r) (cond zero_wait [] (number_line verb.Wait n ∷ [])) (open_block v g t ks ss b n r)
wait_line_taken v g t ks ss b r n true e h = record { taken = tt; after = ap (λ (w : ℕ). open_block v g t ks ss b w r) (sym (eqb-true n 0 e)) }
wait_line_taken v g t ks ss b r n false e h =
    let low : 1 ≤ n = omega (arith, eqb-false n 0 e) in
    record {
      taken = (
        (number_read 1 20000 n (omega (arith, h)), tt),
        no_fault (open_block v g t ks ss b 0 r) (number_line verb.Wait n) refl refl refl
            (command_limits _ true (and_from _ _ (and_from _ _ (le-leb 1 n low) (le-leb n 20000 h)) refl) refl),
        tt,
      );
      after = ap (λ (w : ℕ). open_block v g t ks ss b w r) (kept n 4294967295 (omega (arith, h)));
    }

command_lines_taken : (v : ℕ) (g : Group) (t : ℕ) (ks : List Skew) (ss : List (List Request)) (b : List Request)
    (w r : ℕ) (bytes : List ℕ) (o : Option Command) → command_of bytes ≡ o → is_some o ≡ true
    → has_room_for_requests (r + 1) t ≡ true
    → IsTakenTo (open_block v g t ks ss b w r) (lines_of_command o)
    (open_block v g t ks ss (b ++ (record { wait = w; command = bytes }) ∷ []) 0 (r + 1))
command_lines_taken v g t ks ss b w r bytes None e some room = absurd (false≢true some)
command_lines_taken v g t ks ss b w r bytes (Some c) e some room =
    let spelled = spells_from_reading bytes c e in
    let h = command_taken v g t ks ss b w r c ((validity_is c).1 spelled.valid) room in
    record {
      taken = h.taken;
      after = h.after ∙ ap (λ (x : List ℕ). open_block v g t ks ss (b ++ (record { wait = w; command = x }) ∷ []) 0 (r + 1)) (sym spelled.whole);
    }

request_taken : (v : ℕ) (g : Group) (t : ℕ) (ks : List Skew) (ss : List (List Request)) (b : List Request) (r : ℕ) (q : Request)
    → is_request q ≡ true → has_room_for_requests (r + 1) t ≡ true
    → IsTakenTo (open_block v g t ks ss b 0 r) (request_lines q) (open_block v g t ks ss (b ++ q ∷ []) 0 (r + 1))
request_taken v g t ks ss b r q e room =
    let p = and_parts (nat_le q.wait 20000) (is_some (command_of q.command)) e in
    then_taken (open_block v g t ks ss b 0 r) (open_block v g t ks ss b q.wait r)
    (open_block v g t ks ss (b ++ q ∷ []) 0 (r + 1)) (wait_lines q.wait) (lines_of_command (command_of q.command))
    (wait_line_taken v g t ks ss b r q.wait (q.wait == 0) refl (leb-true q.wait 20000 p.0))
    (command_lines_taken v g t ks ss b q.wait r q.command (command_of q.command) refl p.1 room)

-- fewer requests have room where more have it
pub room_less : (a b t : ℕ) → a ≤ b → has_room_for_requests b t ≡ true → has_room_for_requests a t ≡ true
room_less a b t h e =
    let p = and_parts (nat_le b 2000) (nat_le (b * t) 2000000) e in
    and_from _ _ (le-leb a 2000 (omega (arith, h, leb-true b 2000 p.0)))
    (le-leb (a * t) 2000000 (omega (arith, mul-le-mul_right t h, leb-true (b * t) 2000000 p.1)))

-- the draft after a block that is whole
abbrev pub closed : ℕ → Group → ℕ → List Skew → ℕ → List (List Request) → ℕ → Draft
closed v g t ks n ss r = a_draft (cond (n == g.clients) place.Mishaps place.Between) v g t ks ss [] 0 r []

script_taken : (v : ℕ) (g : Group) (t : ℕ) (ks : List Skew) (ss : List (List Request)) (b : List Request) (r : ℕ) (qs : List Request)
    → are_requests qs ≡ true → has_room_for_requests (r + length qs) t ≡ true
    → IsTakenTo (open_block v g t ks ss b 0 r) (script_lines qs) (closed v g t ks (length ss + 1) (ss ++ (b ++ qs) ∷ []) (r + length qs))
script_taken v g t ks ss b r [] e room =
    let none : r ≡ r + 0 = omega arith in
    record {
      taken = (tt, no_fault (open_block v g t ks ss b 0 r) (a_line verb.End []) refl refl refl refl, tt);
      after =
          ap (λ (x : List Request). closed v g t ks (length ss + 1) (ss ++ x ∷ []) r) (sym (append-nil b))
          ∙ ap (λ (n : ℕ). closed v g t ks (length ss + 1) (ss ++ (b ++ []) ∷ []) n) none;
    }
script_taken v g t ks ss b r (q ∷ qs) e room =
    let p = and_parts (is_request q) (list_all is_request qs) e in
    let one = request_taken v g t ks ss b r q p.0 (room_less (r + 1) (r + length (q ∷ qs)) t (omega arith) room) in
    let count : r + 1 + length qs ≡ r + length (q ∷ qs) = omega arith in
    let more = script_taken v g t ks ss (b ++ q ∷ []) (r + 1) qs p.1 (ap (λ (n : ℕ). has_room_for_requests n t) count ∙ room) in
    let all = then_taken (open_block v g t ks ss b 0 r) (open_block v g t ks ss (b ++ q ∷ []) 0 (r + 1)) _ (request_lines q) (script_lines qs) one more in
    record {
      taken = all.taken;
      after = all.after ∙ ap (λ (x : List Request). closed v g t ks (length ss + 1) (ss ++ x ∷ []) (r + 1 + length qs)) (append_assoc b (q ∷ []) qs)
          ∙ ap (λ (n : ℕ). closed v g t ks (length ss + 1) (ss ++ (b ++ q ∷ qs) ∷ []) n) count;
    }

pub other_count : (n m : ℕ) → n < m → (n == m) ≡ false
other_count n m h = grind (arith, h)

is_below : (n m : ℕ) → n < m → nat_lt n m ≡ true
is_below n m h = grind (arith, h)

pub same_count : (n : ℕ) → (n == n) ≡ true
same_count n = grind arith

client_taken : (v : ℕ) (g : Group) (t : ℕ) (ks : List Skew) (ss : List (List Request)) (r : ℕ) → IsSmall g → length ss < g.clients
    → IsTakenTo (closed v g t ks (length ss) ss r) (a_line verb.Client (word.Named (actor.Client (length ss)) ∷ []) ∷ []) (open_block v g t ks ss [] 0 r)
client_taken v g t ks ss r small h =
    let here : closed v g t ks (length ss) ss r ≡ a_draft place.Between v g t ks ss [] 0 r [] =
    ap (λ (b : Bool). a_draft (cond b place.Mishaps place.Between) v g t ks ss [] 0 r []) (other_count (length ss) g.clients h) in
    subst (λ (d : Draft). IsTakenTo d (a_line verb.Client (word.Named (actor.Client (length ss)) ∷ []) ∷ [])
    (open_block v g t ks ss [] 0 r)) (sym here) (record {
      taken = (
        (client_read (actor.Client (length ss)) (omega (arith, h, small.clients)), tt),
        no_fault (a_draft place.Between v g t ks ss [] 0 r []) (a_line verb.Client (word.Named (actor.Client (length ss)) ∷ [])) refl
            (or_right (not (nat_lt (length ss) g.clients)) (length ss == length ss) (same_count (length ss)))
            (and_from _ _ (and_from _ _ (is_below (length ss) g.clients h) refl) refl) refl,
        tt,
      );
      after = refl;
    })

pub scripts_taken : (v : ℕ) (g : Group) (t : ℕ) (ks : List Skew) (done rest : List (List Request)) (r : ℕ) → IsSmall g
    → length done + length rest ≡ g.clients → list_all are_requests rest ≡ true
    → has_room_for_requests (r + requests_in_all rest) t ≡ true
    → IsTakenTo (closed v g t ks (length done) done r) (scripts_lines (length done) rest) (closed v g t ks g.clients (done ++ rest) (r + requests_in_all rest))
scripts_taken v g t ks done [] r small count e room =
    let all : length done ≡ g.clients = omega (arith, count) in
    let none : r ≡ r + 0 = omega arith in
    record {
      taken = tt;
      after = ap (λ (n : ℕ). closed v g t ks n done r) all
          ∙ ap (λ (x : List (List Request)). closed v g t ks g.clients x r) (sym (append-nil done))
          ∙ ap (λ (n : ℕ). closed v g t ks g.clients (done ++ []) n) none;
    }
scripts_taken v g t ks done (x ∷ rest) r small count e room =
    let p = and_parts (are_requests x) (list_all are_requests rest) e in
    let head : requests_in_all (x ∷ rest) ≡ length x + requests_in_all rest = sum_by-cons length x rest in
    let sum : r + length x + requests_in_all rest ≡ r + requests_in_all (x ∷ rest) = omega (arith, head) in
    let next : length (done ++ x ∷ []) ≡ length done + 1 = length-append done (x ∷ []) in
    let first = client_taken v g t ks done r small (omega (arith, count)) in
    let block = script_taken v g t ks done [] r x p.0 (room_less (r + length x) (r + requests_in_all (x ∷ rest)) t (omega (arith, head)) room) in
    let more =
    scripts_taken v g t ks (done ++ x ∷ []) rest (r + length x) small (omega (arith, next, count)) p.1
    (ap (λ (n : ℕ). has_room_for_requests n t) sum ∙ room) in
    let turned =
    subst (λ (n : ℕ). IsTakenTo (closed v g t ks n (done ++ x ∷ []) (r + length x)) (scripts_lines n rest)
    (closed v g t ks g.clients ((done ++ x ∷ []) ++ rest) (r + length x + requests_in_all rest))) next more in
    let all =
    then_taken (closed v g t ks (length done) done r) (open_block v g t ks done [] 0 r) _
    (a_line verb.Client (word.Named (actor.Client (length done)) ∷ []) ∷ []) (script_lines x ++ scripts_lines (length done + 1) rest) first
    (then_taken (open_block v g t ks done [] 0 r)
    (closed v g t ks (length done + 1) (done ++ x ∷ []) (r + length x)) _ (script_lines x) (scripts_lines (length done + 1) rest) block turned) in
    record {
      taken = all.taken;
      after = all.after ∙ ap (λ (y : List (List Request)). closed v g t ks g.clients y (r + length x + requests_in_all rest)) (append_assoc done (x ∷ []) rest)
          ∙ ap (λ (n : ℕ). closed v g t ks g.clients (done ++ x ∷ rest) n) sum;
    }
