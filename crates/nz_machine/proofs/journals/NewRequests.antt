-- Which requests are new among those that were sent, one parcel at a time.
use Rattle.std.proofs.Common.{◌≡◌, ℕ, ◌+◌, ◌<◌, ◌≤◌, List, [], ◌∷◌, ◌++◌, length, map, take, get_or, Option, refl, sym, ap, subst, ◌∙◌}
use Rattle.std.proofs.lemmas.List.{map-append, append_assoc, append-nil, take_more, take_all}
use Rattle.nz_base.specs.declared.scenario.Request.{Request}
use Rattle.nz_machine.specs.declared.event.Parcel.{Parcel}
use Rattle.nz_machine.specs.declared.client_event.ClientEvent.{ClientEvent}
use Rattle.nz_machine.specs.journals.ClientProgress.{Progress, num_of, new_in, with_num, new_among, with_all}

-- the parcels were read, and the new requests among them were added
pub record AreRead (c : ℕ) (script : List Request) (p : Progress) (ps : List Parcel) (q : Progress) (E F : List ClientEvent) : Type 0 where
  pub after : q ≡ with_all p (map num_of ps)
  pub new : F ≡ E ++ new_among c script p (map num_of ps)

pub none_read : (c : ℕ) (script : List Request) (p : Progress) (old : List ClientEvent) → AreRead c script p [] p old old
none_read c script p old = record { after = refl; new = sym (append-nil old) }

all_more : (p : Progress) (nums : List (Option ℕ)) (num : Option ℕ) → with_all p (nums ++ num ∷ []) ≡ with_num (with_all p nums) num
all_more p [] num = refl
all_more p (n ∷ nums) num = all_more (with_num p n) nums num

among_more : (c : ℕ) (script : List Request) (p : Progress) (nums : List (Option ℕ)) (num : Option ℕ)
    → new_among c script p (nums ++ num ∷ []) ≡ new_among c script p nums ++ new_in c script (with_all p nums) num
among_more c script p [] num = append-nil (new_in c script p num)
among_more c script p (n ∷ nums) num =
    ap (λ (l : List ClientEvent). new_in c script p n ++ l) (among_more c script (with_num p n) nums num)
    ∙ sym (append_assoc (new_in c script p n) (new_among c script (with_num p n) nums) (new_in c script (with_all (with_num p n) nums) num))

parcels_more : (ps : List Parcel) (i : ℕ) (x : Parcel) → i < length ps → x ≡ get_or ps i x
    → map num_of (take (i + 1) ps) ≡ map num_of (take i ps) ++ num_of x ∷ []
parcels_more ps i x lt at =
    ap (map num_of) (take_more ps i x lt) ∙ map-append num_of (take i ps) (get_or ps i x ∷ [])
    ∙ ap (λ (y : Parcel). map num_of (take i ps) ++ num_of y ∷ []) (sym at)

pub one_read : (c : ℕ) (script : List Request) (p : Progress) (ps : List Parcel) (i : ℕ) (x : Parcel) (q after : Progress) (old new more : List ClientEvent)
    → i < length ps → x ≡ get_or ps i x → AreRead c script p (take i ps) q old new → after ≡ with_num q (num_of x)
    → more ≡ new ++ new_in c script q (num_of x) → AreRead c script p (take (i + 1) ps) after old more
one_read c script p ps i x q after old new more lt at h now adds =
    let nums = map num_of (take i ps) in
    let parts = parcels_more ps i x lt at in
    let so_far = new_among c script p nums in
    record {
      after = now ∙ ap (λ (r : Progress). with_num r (num_of x)) h.after ∙ sym (all_more p nums (num_of x)) ∙ ap (with_all p) (sym parts);
      new = adds ∙ (λ j. h.new j ++ new_in c script (h.after j) (num_of x)) ∙ append_assoc old so_far (new_in c script (with_all p nums) (num_of x))
          ∙ ap (λ (l : List ClientEvent). old ++ l) (sym (among_more c script p nums (num_of x)) ∙ ap (new_among c script p) (sym parts));
    }

pub all_read : (c : ℕ) (script : List Request) (p : Progress) (ps : List Parcel) (i : ℕ) (q : Progress) (old new : List ClientEvent) → length ps ≤ i
    → AreRead c script p (take i ps) q old new → AreRead c script p ps q old new
all_read c script p ps i q old new past h = subst (λ (xs : List Parcel). AreRead c script p xs q old new) (take_all i ps past) h
