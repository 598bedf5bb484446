-- The fault lines that may strike a parcel of a course: the others leave its deliveries as they are.
use Rattle.std.proofs.Common.{◌≡◌, ℕ, ◌+◌, ◌<◌, eqb, Bool, true, false, cond, Option, Some, None, List, [], ◌∷◌, ◌++◌, refl, sym, ap, ◌∙◌, subst, arith}
use Rattle.std.specs.Prelude.{◌&&◌, ◌||◌, filter, length, take, get_or, IfSome}
use Rattle.std.proofs.lemmas.Bool.{cond_both, eqb-true}
use Rattle.std.proofs.lemmas.Bool.Decides.{nat_tests}
use Rattle.std.proofs.lemmas.List.{take_more}
use Rattle.std.proofs.lemmas.List.Elements.{filter-append}
use Rattle.nz_base.proofs.Names.{same_actor}
use Rattle.nz_base.specs.Actor.{actor_eq, is_within}
use Rattle.nz_base.specs.declared.actor.Actor.{Actor}
use Rattle.nz_base.specs.declared.scenario.Fault.{Fault}
use Rattle.nz_base.specs.declared.scenario.Fault.TheVariants as faults
use Rattle.nz_machine.specs.declared.event.Parcel.{Parcel}
use Rattle.nz_machine.specs.runs.Schedule.{Delivery, is_parcel_of, is_nth, is_blocked, is_named, has_kind, kind_in_frame, after_fault, after_faults}
use Rattle.nz_fabric.specs.declared.schedule.course.Course.{Course}
use Rattle.nz_fabric.specs.declared.schedule.course.Traffic.{Traffic}
use Rattle.nz_fabric.specs.schedule.Calendars.{course, course_eq, traffic_on, is_about, is_block, is_watched, lines_at, may_strike, may_strike_kind}
use Rattle.nz_fabric.specs.schedule.Calendars.{names, HasLines, IsCounted, KeepsLines}
use Rattle.nz_fabric.specs.schedule.Numbered.{items_under}
use Rattle.nz_fabric.specs.schedule.Posting.{strikes, HasNumber}
use Rattle.nz_fabric.proofs.calendars.Numbering.{both_true, same_course, faulted_is, struck_by_number}

-- ---- a line that may not strike

not_nth : (from to : Actor) (kind count own : ℕ) (earlier : List Parcel) (p : Parcel) → kind_in_frame p.frame ≡ Some own
    → is_about p.from p.to own from to kind ≡ false → is_nth from to kind count earlier p ≡ false
not_nth from to kind count own earlier p is away =
    ap (λ (o : Option ℕ). (actor_eq p.from from && (actor_eq p.to to && has_kind kind o))
    && eqb (length (filter (is_parcel_of from to kind) earlier) + 1) count) is
    ∙ ap (λ (b : Bool). b && eqb (length (filter (is_parcel_of from to kind) earlier) + 1) count) away

not_both : (a b c : Bool) → (a && b) ≡ false → (a && (b && c)) ≡ false
not_both true b c away = ap (λ (b : Bool). b && c) away
not_both false b c away = refl

-- a line that may not strike a parcel of a course does not strike it
never_strikes : (tick own : ℕ) (earlier : List Parcel) (p : Parcel) (line : Fault) → kind_in_frame p.frame ≡ Some own
    → may_strike p.from p.to own line ≡ false → strikes tick earlier p line ≡ false
never_strikes tick own earlier p (faults.Drop from to kind count) is away = not_nth from to kind count own earlier p is away
never_strikes tick own earlier p (faults.Hold from to kind count by) is away = not_nth from to kind count own earlier p is away
never_strikes tick own earlier p (faults.Twice from to kind count by) is away = not_nth from to kind count own earlier p is away
never_strikes tick own earlier p (faults.Cut from to kind count keep) is away = not_nth from to kind count own earlier p is away
never_strikes tick own earlier p (faults.Block from to first last) is away =
    not_both (is_named from p.from) (is_named to p.to) (is_within first last tick) away
never_strikes tick own earlier p (faults.Crash a t) is away = refl
never_strikes tick own earlier p (faults.Restart a t) is away = refl
never_strikes tick own earlier p (faults.Alarm a t) is away = refl

-- the lines that may strike leave of a parcel's deliveries what all lines leave
pub lines_suffice : (tick own : ℕ) (earlier : List Parcel) (p : Parcel) (lines : List Fault) (ds : List Delivery)
    → kind_in_frame p.frame ≡ Some own
    → after_faults tick earlier p (filter (may_strike p.from p.to own) lines) ds ≡ after_faults tick earlier p lines ds
lines_suffice tick own earlier p [] ds is = refl
lines_suffice tick own earlier p (line ∷ lines) ds is =
    let some = filter (may_strike p.from p.to own) lines in
    let ih = λ (ds : List Delivery). lines_suffice tick own earlier p lines ds is in
    cond_both (may_strike p.from p.to own line) (line ∷ some) some
    (λ (xs : List Fault). after_faults tick earlier p xs ds ≡ after_faults tick earlier p (line ∷ lines) ds)
    (λ e. ih (after_fault tick earlier p line ds))
    (λ e. ih ds ∙ ap (after_faults tick earlier p lines) (sym (faulted_is tick earlier p line ds false (never_strikes tick own earlier p line is e))))

-- ---- a kind of which no line may strike a parcel

not_of_kind : (a b c : Bool) → c ≡ false → (a && (b && c)) ≡ false
not_of_kind true true c h = h
not_of_kind true false c h = refl
not_of_kind false b c h = refl

spares_kind : (from to : Actor) (kind : ℕ) (line : Fault) → may_strike_kind kind line ≡ false → may_strike from to kind line ≡ false
spares_kind from to kind (faults.Drop a b k count) e = not_of_kind (actor_eq from a) (actor_eq to b) (eqb kind k) e
spares_kind from to kind (faults.Hold a b k count by) e = not_of_kind (actor_eq from a) (actor_eq to b) (eqb kind k) e
spares_kind from to kind (faults.Twice a b k count by) e = not_of_kind (actor_eq from a) (actor_eq to b) (eqb kind k) e
spares_kind from to kind (faults.Cut a b k count keep) e = not_of_kind (actor_eq from a) (actor_eq to b) (eqb kind k) e
spares_kind from to kind (faults.Block a b first last) e = cc
spares_kind from to kind (faults.Crash a t) e = refl
spares_kind from to kind (faults.Restart a t) e = refl
spares_kind from to kind (faults.Alarm a t) e = refl

neither : (a b : Bool) → (a || b) ≡ false → (a ≡ false) × (b ≡ false)
neither true b e = cc
neither false b e = (refl, e)

none_strike : (from to : Actor) (kind : ℕ) (lines : List Fault) → is_watched lines kind ≡ false → filter (may_strike from to kind) lines ≡ []
none_strike from to kind [] e = refl
none_strike from to kind (line ∷ lines) e =
    let b = neither (may_strike_kind kind line) (is_watched lines kind) e in
    let some = filter (may_strike from to kind) lines in
    ap (λ (b : Bool). let xs : List Fault = cond b (line ∷ some) some in xs) (spares_kind from to kind line b.0) ∙ none_strike from to kind lines b.1

-- the lines leave the deliveries of its parcels
pub unwatched_whole : (tick own : ℕ) (earlier : List Parcel) (p : Parcel) (lines : List Fault) (ds : List Delivery)
    → kind_in_frame p.frame ≡ Some own → is_watched lines own ≡ false → ds ≡ after_faults tick earlier p lines ds
unwatched_whole tick own earlier p lines ds is e =
    ap (λ (xs : List Fault). after_faults tick earlier p xs ds) (sym (none_strike p.from p.to own lines e))
    ∙ lines_suffice tick own earlier p lines ds is

-- ---- blocks first

kept_whole : (b : Bool) (ds : List Delivery) → cond b ds ds ≡ ds
kept_whole true ds = refl
kept_whole false ds = refl

-- a line leaves nothing where there is nothing
nothing_left : (tick : ℕ) (earlier : List Parcel) (p : Parcel) (line : Fault) → after_fault tick earlier p line [] ≡ []
nothing_left tick earlier p (faults.Drop from to kind count) = kept_whole (is_nth from to kind count earlier p) []
nothing_left tick earlier p (faults.Hold from to kind count by) = kept_whole (is_nth from to kind count earlier p) []
nothing_left tick earlier p (faults.Twice from to kind count by) = kept_whole (is_nth from to kind count earlier p) []
nothing_left tick earlier p (faults.Cut from to kind count keep) = kept_whole (is_nth from to kind count earlier p) []
nothing_left tick earlier p (faults.Block from to first last) = kept_whole (is_blocked from to first last tick p) []
nothing_left tick earlier p (faults.Crash a t) = refl
nothing_left tick earlier p (faults.Restart a t) = refl
nothing_left tick earlier p (faults.Alarm a t) = refl

-- a block may as well come before another line
block_first : (tick : ℕ) (earlier : List Parcel) (p : Parcel) (line block : Fault) (ds : List Delivery) → is_block block ≡ true
    → after_fault tick earlier p line (after_fault tick earlier p block ds) ≡ after_fault tick earlier p block (after_fault tick earlier p line ds)
block_first tick earlier p line (faults.Block from to first last) ds is = either (is_blocked from to first last tick p)
  where
    either : (b : Bool) → after_fault tick earlier p line (cond b [] ds) ≡ cond b [] (after_fault tick earlier p line ds)
    either true = nothing_left tick earlier p line
    either false = refl
block_first tick earlier p line other ds is = cc

blocks_first : (tick : ℕ) (earlier : List Parcel) (p : Parcel) (line : Fault) (lines rest : List Fault) (ds : List Delivery)
    → after_faults tick earlier p (filter is_block lines ++ line ∷ rest) ds
    ≡ after_faults tick earlier p (filter is_block lines ++ rest) (after_fault tick earlier p line ds)
blocks_first tick earlier p line [] rest ds = refl
blocks_first tick earlier p line (x ∷ lines) rest ds =
    let blocks = filter is_block lines in
    cond_both (is_block x) (x ∷ blocks) blocks
    (λ (xs : List Fault). after_faults tick earlier p (xs ++ line ∷ rest) ds
    ≡ after_faults tick earlier p (xs ++ rest) (after_fault tick earlier p line ds))
    (λ e. blocks_first tick earlier p line lines rest (after_fault tick earlier p x ds)
    ∙ ap (after_faults tick earlier p (blocks ++ rest)) (block_first tick earlier p line x ds e))
    (λ e. blocks_first tick earlier p line lines rest ds)

-- ---- the lines that name other parcels

other_number : (from to : Actor) (kind count n : ℕ) (earlier : List Parcel) (p : Parcel) → HasNumber earlier p n → eqb count n ≡ false
    → is_nth from to kind count earlier p ≡ false
other_number from to kind count n earlier p h away =
    let apart : eqb n count ≡ false = grind (arith, nat_tests) in
    sym (struck_by_number from to kind count n earlier p h) ∙ ap (λ (b : Bool). b && is_parcel_of from to kind p) apart

named_or_not : (tick n : ℕ) (earlier : List Parcel) (p : Parcel) (line : Fault) (lines : List Fault) (ds : List Delivery) (b : Bool)
    → (b ≡ false → strikes tick earlier p line ≡ false)
    → ((ds : List Delivery) → after_faults tick earlier p (filter is_block lines ++ filter (names n) lines) ds ≡ after_faults tick earlier p lines ds)
    → after_faults tick earlier p (filter is_block lines ++ cond b (line ∷ filter (names n) lines) (filter (names n) lines)) ds
    ≡ after_faults tick earlier p lines (after_fault tick earlier p line ds)
named_or_not tick n earlier p line lines ds true away ih =
    blocks_first tick earlier p line lines (filter (names n) lines) ds ∙ ih (after_fault tick earlier p line ds)
named_or_not tick n earlier p line lines ds false away ih =
    ih ds ∙ ap (after_faults tick earlier p lines) (sym (faulted_is tick earlier p line ds false (away refl)))

-- the blocks and then the lines that name a parcel leave of its deliveries what all lines leave
named_suffice : (tick n : ℕ) (earlier : List Parcel) (p : Parcel) (lines : List Fault) (ds : List Delivery) → HasNumber earlier p n
    → after_faults tick earlier p (filter is_block lines ++ filter (names n) lines) ds ≡ after_faults tick earlier p lines ds
named_suffice tick n earlier p [] ds h = refl
named_suffice tick n earlier p (faults.Drop from to kind count ∷ lines) ds h =
    named_or_not tick n earlier p (faults.Drop from to kind count) lines ds (eqb count n)
    (other_number from to kind count n earlier p h) (λ ds. named_suffice tick n earlier p lines ds h)
named_suffice tick n earlier p (faults.Hold from to kind count by ∷ lines) ds h =
    named_or_not tick n earlier p (faults.Hold from to kind count by) lines ds (eqb count n)
    (other_number from to kind count n earlier p h) (λ ds. named_suffice tick n earlier p lines ds h)
named_suffice tick n earlier p (faults.Twice from to kind count by ∷ lines) ds h =
    named_or_not tick n earlier p (faults.Twice from to kind count by) lines ds (eqb count n)
    (other_number from to kind count n earlier p h) (λ ds. named_suffice tick n earlier p lines ds h)
named_suffice tick n earlier p (faults.Cut from to kind count keep ∷ lines) ds h =
    named_or_not tick n earlier p (faults.Cut from to kind count keep) lines ds (eqb count n)
    (other_number from to kind count n earlier p h) (λ ds. named_suffice tick n earlier p lines ds h)
named_suffice tick n earlier p (faults.Block from to first last ∷ lines) ds h =
    named_suffice tick n earlier p lines (after_fault tick earlier p (faults.Block from to first last) ds) h
named_suffice tick n earlier p (faults.Crash a t ∷ lines) ds h = named_suffice tick n earlier p lines ds h
named_suffice tick n earlier p (faults.Restart a t ∷ lines) ds h = named_suffice tick n earlier p lines ds h
named_suffice tick n earlier p (faults.Alarm a t ∷ lines) ds h = named_suffice tick n earlier p lines ds h

-- ---- what is kept of a course

-- the kept lines that may strike a parcel leave of its deliveries what all lines leave
pub kept_suffice : (tick own n : ℕ) (earlier : List Parcel) (p : Parcel) (lines : List Fault) (t : Traffic) (ds : List Delivery)
    → Some own ≡ kind_in_frame p.frame → HasNumber earlier p n → HasLines (filter (may_strike p.from p.to own) lines) t
    → after_faults tick earlier p (lines_at n t) ds ≡ after_faults tick earlier p lines ds
kept_suffice tick own n earlier p lines t ds is h kept =
    let some = filter (may_strike p.from p.to own) lines in
    ap (λ (xs : List Fault). after_faults tick earlier p (xs ++ items_under t.named n) ds) kept.blocks
    ∙ ap (λ (xs : List Fault). after_faults tick earlier p (filter is_block some ++ xs) ds) (kept.named n)
    ∙ named_suffice tick n earlier p some ds h ∙ lines_suffice tick own earlier p lines ds (sym is)

pub kept_by : (own : ℕ) (sent p : Parcel) (given lines : List Fault) (t : Traffic) → sent ≡ p → given ≡ lines
    → HasLines (filter (may_strike sent.from sent.to own) given) t → HasLines (filter (may_strike p.from p.to own) lines) t
kept_by own sent p given lines t same all kept =
    subst (λ (xs : List Fault). HasLines (filter (may_strike p.from p.to own) xs) t) all
    (subst (λ (q : Parcel). HasLines (filter (may_strike q.from q.to own) given) t) same kept)

-- one line more
pub one_kept : (chosen : Fault → Bool) (lines : List Fault) (i : ℕ) (line : Fault) (old new : Traffic) → i < length lines → line ≡ get_or lines i line
    → HasLines (filter chosen (take i lines)) old → new.blocks ≡ old.blocks ++ filter is_block (filter chosen (line ∷ []))
    → ((n : ℕ) → items_under new.named n ≡ items_under old.named n ++ filter (names n) (filter chosen (line ∷ [])))
    → HasLines (filter chosen (take (i + 1) lines)) new
one_kept chosen lines i line old new lt at kept blocks named =
    let so_far = take i lines in
    let more : filter chosen (take (i + 1) lines) ≡ filter chosen so_far ++ filter chosen (line ∷ []) =
    ap (filter chosen) (take_more lines i line lt ∙ ap (λ (x : Fault). so_far ++ x ∷ []) (sym at)) ∙ filter-append chosen so_far (line ∷ []) in
    subst (λ (xs : List Fault). HasLines xs new) (sym more) (record {
      blocks =
          blocks ∙ ap (λ (xs : List Fault). xs ++ filter is_block (filter chosen (line ∷ []))) kept.blocks
          ∙ sym (filter-append is_block (filter chosen so_far) (filter chosen (line ∷ [])));
      named = λ n.
          named n ∙ ap (λ (xs : List Fault). xs ++ filter (names n) (filter chosen (line ∷ []))) (kept.named n)
          ∙ sym (filter-append (names n) (filter chosen so_far) (filter chosen (line ∷ [])));
    })

kept_of_own : (p : Parcel) (k kind : ℕ) (from to : Actor) (lines : List Fault) (t : Traffic)
    → course_eq (course p.from p.to k) (course from to kind) ≡ true
    → HasLines (filter (may_strike p.from p.to k) lines) t → HasLines (filter (may_strike from to kind) lines) t
kept_of_own p k kind from to lines t e kept =
    let a = both_true (actor_eq p.from from) _ (sym (same_course p from to k kind) ∙ e) in
    let b = both_true (actor_eq p.to to) _ a.1 in
    subst (λ (xs : List Fault). HasLines xs t)
    (ap (λ (x : Actor). filter (may_strike x p.to k) lines) (same_actor p.from from a.0)
    ∙ ap (λ (x : Actor). filter (may_strike from x k) lines) (same_actor p.to to b.0)
    ∙ ap (λ (x : ℕ). filter (may_strike from to x) lines) (eqb-true k kind b.1)) kept

-- with one parcel more the lines of each course are kept
pub kept_after : (lines : List Fault) (before after : List (Course × Traffic)) (p : Parcel) (k : Option ℕ)
    → IsCounted lines before after p k → KeepsLines lines before → KeepsLines lines after
kept_after lines before after p None h kept = subst (KeepsLines lines) (sym h) kept
kept_after lines before after p (Some k) h kept = λ from to kind.
    let Keeps : Option Traffic → Type 0 = λ traffic. IfSome traffic (HasLines (filter (may_strike from to kind) lines)) in
    subst Keeps (sym (h.courses (course from to kind)))
    (cond_both (course_eq (course p.from p.to k) (course from to kind)) (Some h.traffic) (traffic_on before (course from to kind)) Keeps
    (λ e. kept_of_own p k kind from to lines h.traffic e h.kept) (λ e. kept from to kind))
