-- The entries that a frame carries are a log.
use Rattle.nz_base.specs.declared.limits.TheConstants.{MAX_ENTRIES}
use Rattle.std.proofs.Common.{◌≡◌, ℕ, ◌≤◌, ◌&&◌, not, true, false, List, [], ◌∷◌, ◌++◌, length, refl, sym, subst, append_assoc, arith}
use Rattle.std.proofs.lemmas.Bool.{and_parts, not-true}
use Rattle.std.proofs.lemmas.Bool.Decides.{nat_tests}
use Rattle.std.proofs.lemmas.List.{append-nil}
use Rattle.nz_base.specs.declared.key.Key.{Key}
use Rattle.nz_base.specs.declared.key.Entry.{Entry}
use Rattle.nz_base.specs.Key.{id_eq, id_of, key_below}
use Rattle.nz_base.specs.Log.{keys_of, has_id, is_above_last, IsLog}
use Rattle.nz_base.proofs.Names.{id_turn_away}
use Rattle.nz_base.proofs.Logs.{log_push}
use Rattle.nz_msg.specs.Codec.{number_within, ItemsFit}
use Rattle.nz_msg.specs.Fields.{may_follow, next_entry, entries}
use Rattle.nz_msg.proofs.Fields.{within_most}
use Rattle.nz_machine.specs.rules.Facts.{IsCarried}
use Rattle.nz_machine.proofs.facts.SentFields.{entries_of_fit}

is_above : (before : List Entry) (k : Key) → may_follow (λ (e : Entry). e.key) before k ≡ true → is_above_last (keys_of before) k ≡ true
is_above [] k h = refl
is_above (a ∷ []) k h =
    (and_parts (key_below a.key k) (not (id_eq (id_of a.key) (id_of k)))
    (and_parts (key_below a.key k && not (id_eq (id_of a.key) (id_of k))) (may_follow (λ (e : Entry). e.key) [] k) h).0).0
is_above (a ∷ b ∷ before) k h =
    is_above (b ∷ before) k (and_parts (key_below a.key k && not (id_eq (id_of a.key) (id_of k))) (may_follow (λ (e : Entry). e.key) (b ∷ before) k) h).1

is_fresh : (before : List Entry) (k : Key) → may_follow (λ (e : Entry). e.key) before k ≡ true → has_id (keys_of before) (id_of k) ≡ false
is_fresh [] k h = refl
is_fresh (a ∷ before) k h =
    let own = (and_parts (key_below a.key k && not (id_eq (id_of a.key) (id_of k))) (may_follow (λ (e : Entry). e.key) before k) h).0 in
    let away =
    id_turn_away (id_of a.key) (id_of k)
    (not-true (id_eq (id_of a.key) (id_of k)) (and_parts (key_below a.key k) (not (id_eq (id_of a.key) (id_of k))) own).1) in
    rw away (is_fresh before k (and_parts (key_below a.key k && not (id_eq (id_of a.key) (id_of k))) (may_follow (λ (e : Entry). e.key) before k) h).1)

log_each : (before xs : List Entry) → IsLog before → ItemsFit next_entry before xs → IsLog (before ++ xs)
log_each before [] log all = subst IsLog (sym (append-nil before)) log
log_each before (x ∷ xs) log all =
    subst IsLog (append_assoc before (x ∷ []) xs)
    (log_each (before ++ x ∷ []) xs (log_push before x log (is_above before x.key all.0.0.1) (is_fresh before x.key all.0.0.1)) all.1)

within_least : (size least most n : ℕ) → (number_within size least most).fits n → least ≤ n
within_least size least most n h = let range = h.1 in grind (arith, nat_tests, range)

pub at_least_of_fit : (least most : ℕ) (xs : List Entry) → (entries least most).fits xs → least ≤ length xs
at_least_of_fit least most xs h = within_least 4 least most (length xs) h.0

pub carried_of_fit : (least : ℕ) (xs : List Entry) → (entries least MAX_ENTRIES).fits xs → IsCarried xs
carried_of_fit least xs h = record {
  log = log_each [] xs (record { rising = tt; own_ids = tt }) h.1.1;
  fit = entries_of_fit least MAX_ENTRIES xs h;
  few = within_most 4 least MAX_ENTRIES (length xs) h.0;
}
