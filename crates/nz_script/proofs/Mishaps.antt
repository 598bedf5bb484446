-- The faults of a valid scenario are taken in, line by line.
use Rattle.std.proofs.Common.{◌≡◌, ℕ, ◌+◌, ◌*◌, ◌≤◌, Bool, true, cond, List, [], ◌∷◌, ◌++◌, Option, Some, None}
use Rattle.std.proofs.Common.{refl, sym, ap, subst, ◌∙◌, arith, length, map, append_assoc, length-append}
use Rattle.std.specs.Prelude.{◌&&◌, nat_le}
use Rattle.std.specs.List.{list_all}
use Rattle.std.proofs.Math.Nat.{mul-le-mul_left}
use Rattle.std.proofs.lemmas.List.{append-nil}
use Rattle.std.proofs.lemmas.Bool.{and_from, and_parts, le-leb, leb-true}
use Rattle.nz_base.specs.declared.actor.Actor.{Actor}
use Rattle.nz_base.specs.declared.scenario.Skew.{Skew}
use Rattle.nz_base.specs.declared.scenario.Request.{Request}
use Rattle.nz_base.specs.declared.scenario.Fault.{Fault}
use Rattle.nz_base.specs.declared.scenario.Fault.TheVariants as fault
use Rattle.nz_base.specs.Actor.{number_of, is_within}
use Rattle.nz_script.specs.declared.message.TheConstants.{KIND_COUNT}
use Rattle.nz_script.specs.declared.line_forms.Place.TheVariants as place
use Rattle.nz_script.specs.declared.line_forms.Mishap.{Mishap}
use Rattle.nz_script.specs.declared.line_forms.Mishap.TheVariants as mishap
use Rattle.nz_script.specs.declared.line_forms.Form.TheVariants as form
use Rattle.nz_script.specs.declared.word.Word.TheVariants as word
use Rattle.nz_script.specs.declared.group.Group.{Group}
use Rattle.nz_script.specs.declared.draft.Draft.{Draft}
use Rattle.nz_script.specs.Shapes.{forms_of}
use Rattle.nz_script.specs.Forms.{actors_as}
use Rattle.nz_script.specs.Drafts.{version_has, keeps_order, is_new_skew, has_room_for_line, knows, is_server, is_replica}
use Rattle.nz_script.specs.Drafts.{is_known, all_known, all_within, is_span, fault_in, has_room_for_faults, with_words}
use Rattle.nz_script.specs.Texts.{actors_word, fault_line}
use Rattle.nz_script.specs.Valid.{is_sound}
use Rattle.nz_script.proofs.Readable.{IsReadAs, number_read, one_actor_read, actors_read, everyone_read, server_read, replica_read, kind_read}
use Rattle.nz_script.proofs.ReadAgain.{AreReadAs, AreTaken, after_lines}
use Rattle.nz_script.proofs.Sections.{a_draft, kept, no_fault, between_most, known_small, IsTakenTo, IsSmall}

-- the sort of the fault's line
abbrev mishap_of : Fault → Mishap
mishap_of (fault.Drop a b k n) = mishap.Drop
mishap_of (fault.Hold a b k n d) = mishap.Hold
mishap_of (fault.Twice a b k n d) = mishap.Twice
mishap_of (fault.Cut a b k n l) = mishap.Cut
mishap_of (fault.Block a b s e) = mishap.Block
mishap_of (fault.Crash a t) = mishap.Crash
mishap_of (fault.Restart a t) = mishap.Restart
mishap_of (fault.Alarm a t) = mishap.Alarm

-- what the tests of a sound fault's line show
record IsFaultRead (f : Fault) : Type 0 where
  reads : AreReadAs (forms_of (fault_line f).verb) (fault_line f).words
  again : fault_in (mishap_of f) (fault_line f).words ≡ f

half : (a b : Bool) → (a && b) ≡ true → a ≡ true
half a b e = (and_parts a b e).0

rest : (a b : Bool) → (a && b) ≡ true → b ≡ true
rest a b e = (and_parts a b e).1

number : (l m n : ℕ) → m ≤ 16777216 → is_within l m n ≡ true → n ≤ 16777216
number l m n h e = omega (arith, h, between_most l m n e)

number_again : (n : ℕ) → n ≤ 16777216 → cond (nat_le n 4294967295) n 4294967295 ≡ n
number_again n h = kept n 4294967295 (omega (arith, h))

reads_number : (l m n : ℕ) → n ≤ 16777216 → IsReadAs (form.Number l m) (word.Number n)
reads_number l m n h = number_read l m n (omega (arith, h))

-- who sends, who gets and which kind
record IsParcel (a b : Actor) (k : ℕ) : Type 0 where
  from : number_of a ≤ 99
  to : number_of b ≤ 99
  low : 1 ≤ k
  high : k ≤ KIND_COUNT

parcel : (g : Group) (a b : Actor) (k : ℕ) (more : Bool) → IsSmall g → (knows g a && (knows g b && (is_within 1 KIND_COUNT k && more))) ≡ true → IsParcel a b k
parcel g a b k more small e =
    let p = and_parts (knows g a) (knows g b && (is_within 1 KIND_COUNT k && more)) e in
    let q = and_parts (knows g b) (is_within 1 KIND_COUNT k && more) p.1 in
    let r = and_parts (nat_le 1 k) (nat_le k KIND_COUNT) (half (is_within 1 KIND_COUNT k) more q.1) in
    record { from = known_small g a small p.0; to = known_small g b small q.0; low = leb-true 1 k r.0; high = leb-true k KIND_COUNT r.1 }

actors_part : (g : Group) (o : Option Actor) → IsSmall g → is_known g form.Actors (actors_word o) ≡ true → IsReadAs form.Actors (actors_word o)
actors_part g None small e = everyone_read
actors_part g (Some a) small e = actors_read a (known_small g a small e)

actors_again : (o : Option Actor) → actors_as (Some (actors_word o)) ≡ o
actors_again None = refl
actors_again (Some a) = refl

abbrev known : Group → Fault → Bool
known g f = all_known g (forms_of (fault_line f).verb) (fault_line f).words

abbrev within : Fault → Bool
within f = all_within (forms_of (fault_line f).verb) (fault_line f).words

abbrev wide : ℕ → ℕ
wide n = cond (nat_le n 4294967295) n 4294967295

fault_read : (g : Group) (f : Fault) → IsSmall g → known g f ≡ true → within f ≡ true → IsFaultRead f
fault_read g (fault.Drop a b k n) small e h =
    let q = parcel g a b k true small e in
    let c = number 1 1000000 n (omega arith) (half (is_within 1 1000000 n) true h) in
    record {
      reads = (one_actor_read a q.from, (one_actor_read b q.to, (kind_read k q.low q.high, (reads_number 1 1000000 n c, tt))));
      again = ap (λ (m : ℕ). fault.Drop a b k m) (number_again n c);
    }
fault_read g (fault.Hold a b k n d) small e h =
    let q = parcel g a b k true small e in
    let c = number 1 1000000 n (omega arith) (half (is_within 1 1000000 n) (is_within 1 20000 d && true) h) in
    let l = number 1 20000 d (omega arith) (half (is_within 1 20000 d) true (rest (is_within 1 1000000 n) (is_within 1 20000 d && true) h)) in
    record {
      reads = (one_actor_read a q.from, (one_actor_read b q.to, (kind_read k q.low q.high, (reads_number 1 1000000 n c, (reads_number 1 20000 d l, tt)))));
      again = ap (λ (m : ℕ). fault.Hold a b k m (wide d)) (number_again n c) ∙ ap (λ (m : ℕ). fault.Hold a b k n m) (number_again d l);
    }
fault_read g (fault.Twice a b k n d) small e h =
    let q = parcel g a b k true small e in
    let c = number 1 1000000 n (omega arith) (half (is_within 1 1000000 n) (is_within 0 20000 d && true) h) in
    let l = number 0 20000 d (omega arith) (half (is_within 0 20000 d) true (rest (is_within 1 1000000 n) (is_within 0 20000 d && true) h)) in
    record {
      reads = (one_actor_read a q.from, (one_actor_read b q.to, (kind_read k q.low q.high, (reads_number 1 1000000 n c, (reads_number 0 20000 d l, tt)))));
      again = ap (λ (m : ℕ). fault.Twice a b k m (wide d)) (number_again n c) ∙ ap (λ (m : ℕ). fault.Twice a b k n m) (number_again d l);
    }
fault_read g (fault.Cut a b k n d) small e h =
    let q = parcel g a b k true small e in
    let c = number 1 1000000 n (omega arith) (half (is_within 1 1000000 n) (is_within 0 16777216 d && true) h) in
    let l = number 0 16777216 d (omega arith) (half (is_within 0 16777216 d) true (rest (is_within 1 1000000 n) (is_within 0 16777216 d && true) h)) in
    record {
      reads = (one_actor_read a q.from, (one_actor_read b q.to, (kind_read k q.low q.high, (reads_number 1 1000000 n c, (reads_number 0 16777216 d l, tt)))));
      again = ap (λ (m : ℕ). fault.Cut a b k m (wide d)) (number_again n c) ∙ ap (λ (m : ℕ). fault.Cut a b k n m) (number_again d l);
    }
fault_read g (fault.Block a b first last) small e h =
    let p = and_parts (is_known g form.Actors (actors_word a)) (is_known g form.Actors (actors_word b) && true) e in
    let q = half (is_known g form.Actors (actors_word b)) true p.1 in
    let c = number 1 20000 first (omega arith) (half (is_within 1 20000 first) (is_within 1 20000 last && true) h) in
    let l = number 1 20000 last (omega arith) (half (is_within 1 20000 last) true (rest (is_within 1 20000 first) (is_within 1 20000 last && true) h)) in
    record {
      reads = (actors_part g a small p.0, (actors_part g b small q, (reads_number 1 20000 first c, (reads_number 1 20000 last l, tt))));
      again = ap (λ (o : Option Actor). fault.Block o (actors_as (Some (actors_word b))) (wide first) (wide last)) (actors_again a)
          ∙ ap (λ (o : Option Actor). fault.Block a o (wide first) (wide last)) (actors_again b)
          ∙ ap (λ (m : ℕ). fault.Block a b m (wide last)) (number_again first c) ∙ ap (λ (m : ℕ). fault.Block a b first m) (number_again last l);
    }
fault_read g (fault.Crash a t) small e h =
    let p = half (is_server a && knows g a) true e in
    let c = number 1 20000 t (omega arith) (half (is_within 1 20000 t) true h) in
    record {
      reads = (server_read a (known_small g a small (rest (is_server a) (knows g a) p)), (reads_number 1 20000 t c, tt));
      again = ap (λ (m : ℕ). fault.Crash a m) (number_again t c);
    }
fault_read g (fault.Restart a t) small e h =
    let p = half (is_server a && knows g a) true e in
    let c = number 1 20000 t (omega arith) (half (is_within 1 20000 t) true h) in
    record {
      reads = (server_read a (known_small g a small (rest (is_server a) (knows g a) p)), (reads_number 1 20000 t c, tt));
      again = ap (λ (m : ℕ). fault.Restart a m) (number_again t c);
    }
fault_read g (fault.Alarm a t) small e h =
    let p = half (is_replica a && knows g a) true e in
    let c = number 1 20000 t (omega arith) (half (is_within 1 20000 t) true h) in
    record {
      reads = (replica_read a (known_small g a small (rest (is_replica a) (knows g a) p)), (reads_number 1 20000 t c, tt));
      again = ap (λ (m : ℕ). fault.Alarm a m) (number_again t c);
    }

-- the draft after the blocks
abbrev pub mishaps : ℕ → Group → ℕ → List Skew → List (List Request) → ℕ → List Fault → Draft
mishaps v g t ks ss r fs = a_draft place.Mishaps v g t ks ss [] 0 r fs

ordered : (v : ℕ) (g : Group) (t : ℕ) (ks : List Skew) (ss : List (List Request)) (r : ℕ) (fs : List Fault) (f : Fault)
    → keeps_order (mishaps v g t ks ss r fs) (fault_line f) ≡ true
ordered v g t ks ss r fs (fault.Drop a b k n) = refl
ordered v g t ks ss r fs (fault.Hold a b k n x) = refl
ordered v g t ks ss r fs (fault.Twice a b k n x) = refl
ordered v g t ks ss r fs (fault.Cut a b k n x) = refl
ordered v g t ks ss r fs (fault.Block a b x y) = refl
ordered v g t ks ss r fs (fault.Crash a x) = refl
ordered v g t ks ss r fs (fault.Restart a x) = refl
ordered v g t ks ss r fs (fault.Alarm a x) = refl

any_version : (v : ℕ) (f : Fault) → version_has v (fault_line f).verb ≡ true
any_version v (fault.Drop a b k n) = refl
any_version v (fault.Hold a b k n x) = refl
any_version v (fault.Twice a b k n x) = refl
any_version v (fault.Cut a b k n x) = refl
any_version v (fault.Block a b x y) = refl
any_version v (fault.Crash a x) = refl
any_version v (fault.Restart a x) = refl
any_version v (fault.Alarm a x) = refl

no_skew : (d : Draft) (f : Fault) → is_new_skew d (fault_line f).verb (fault_line f).words ≡ true
no_skew d (fault.Drop a b k n) = refl
no_skew d (fault.Hold a b k n x) = refl
no_skew d (fault.Twice a b k n x) = refl
no_skew d (fault.Cut a b k n x) = refl
no_skew d (fault.Block a b x y) = refl
no_skew d (fault.Crash a x) = refl
no_skew d (fault.Restart a x) = refl
no_skew d (fault.Alarm a x) = refl

room_of : (d : Draft) (f : Fault) → has_room_for_line d (fault_line f).verb ≡ has_room_for_faults d.requests (length d.faults + 1)
room_of d (fault.Drop a b k n) = refl
room_of d (fault.Hold a b k n x) = refl
room_of d (fault.Twice a b k n x) = refl
room_of d (fault.Cut a b k n x) = refl
room_of d (fault.Block a b x y) = refl
room_of d (fault.Crash a x) = refl
room_of d (fault.Restart a x) = refl
room_of d (fault.Alarm a x) = refl

with_fault : (v : ℕ) (g : Group) (t : ℕ) (ks : List Skew) (ss : List (List Request)) (r : ℕ) (fs : List Fault) (f : Fault)
    → with_words (mishaps v g t ks ss r fs) (fault_line f).verb (fault_line f).words
    ≡ mishaps v g t ks ss r (fs ++ fault_in (mishap_of f) (fault_line f).words ∷ [])
with_fault v g t ks ss r fs (fault.Drop a b k n) = refl
with_fault v g t ks ss r fs (fault.Hold a b k n x) = refl
with_fault v g t ks ss r fs (fault.Twice a b k n x) = refl
with_fault v g t ks ss r fs (fault.Cut a b k n x) = refl
with_fault v g t ks ss r fs (fault.Block a b x y) = refl
with_fault v g t ks ss r fs (fault.Crash a x) = refl
with_fault v g t ks ss r fs (fault.Restart a x) = refl
with_fault v g t ks ss r fs (fault.Alarm a x) = refl

fewer_faults : (r a b : ℕ) → a ≤ b → has_room_for_faults r b ≡ true → has_room_for_faults r a ≡ true
fewer_faults r a b h e =
    let p = and_parts (nat_le b 1000) (nat_le (r * b) 200000) e in
    and_from _ _ (le-leb a 1000 (omega (arith, h, leb-true b 1000 p.0)))
    (le-leb (r * a) 200000 (omega (arith, mul-le-mul_left r h, leb-true (r * b) 200000 p.1)))

pub faults_taken : (v : ℕ) (g : Group) (t : ℕ) (ks : List Skew) (ss : List (List Request)) (r : ℕ) (done fs : List Fault) → IsSmall g
    → list_all (λ f. is_sound g (fault_line f)) fs ≡ true
    → has_room_for_faults r (length done + length fs) ≡ true → IsTakenTo (mishaps v g t ks ss r done) (map fault_line fs) (mishaps v g t ks ss r (done ++ fs))
faults_taken v g t ks ss r done [] small e room = record { taken = tt; after = ap (mishaps v g t ks ss r) (sym (append-nil done)) }
faults_taken v g t ks ss r done (f ∷ fs) small e room =
    let p = and_parts (is_sound g (fault_line f)) (list_all (λ f. is_sound g (fault_line f)) fs) e in
    let q = and_parts (known g f) (within f && is_span (fault_line f).verb (fault_line f).words) p.0 in
    let w = and_parts (within f) (is_span (fault_line f).verb (fault_line f).words) q.1 in
    let x = fault_read g f small q.0 w.0 in
    let step : with_words (mishaps v g t ks ss r done) (fault_line f).verb (fault_line f).words ≡ mishaps v g t ks ss r (done ++ f ∷ [])
    = with_fault v g t ks ss r done f ∙ ap (λ (y : Fault). mishaps v g t ks ss r (done ++ y ∷ [])) x.again in
    let next : length (done ++ f ∷ []) ≡ length done + 1 = length-append done (f ∷ []) in
    let sum : length (done ++ f ∷ []) + length fs ≡ length done + length (f ∷ fs) = omega (arith, next) in
    let more = faults_taken v g t ks ss r (done ++ f ∷ []) fs small p.1 (ap (has_room_for_faults r) sum ∙ room) in
    record {
      taken = (
        x.reads,
        no_fault (mishaps v g t ks ss r done) (fault_line f) (any_version v f) (ordered v g t ks ss r done f)
            (and_from _ _ q.0 (no_skew (mishaps v g t ks ss r done) f))
            (and_from _ _ q.1 (room_of (mishaps v g t ks ss r done) f ∙ fewer_faults r (length done + 1) (length done + length (f ∷ fs)) (omega arith) room)),
        subst (λ (d : Draft). AreTaken d (map fault_line fs)) (sym step) more.taken,
      );
      after = ap (λ (d : Draft). after_lines d (map fault_line fs)) step ∙ more.after ∙ ap (mishaps v g t ks ss r) (append_assoc done (f ∷ []) fs);
    }
