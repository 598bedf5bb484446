-- What the function of this folder owes, proved.
use Rattle.std.proofs.Common.{◌≡◌, ◌+◌, ◌<◌, ◌≤◌, true, false, List, ℕ, [], ◌∷◌, ◌++◌, take, drop, length, get_or, set, subst, ap, sym, ◌∙◌, arith, length-set}
use Rattle.std.specs.List.{filter}
use Rattle.std.specs.Vec.{vec_len}
use Rattle.std.proofs.lemmas.List.{get_or_default}
use Rattle.nz_base.specs.declared.key.Entry.{Entry}
use Rattle.nz_digest.specs.Digests.{xor_bytes}
use Rattle.nz_log.specs.Synced.{stays_after}
use Rattle.nz_log.specs.Keeping.{IsSummed, without_place}
use Rattle.nz_log.proofs.Putting.{IsFolding, fold_start, fold_gone, fold_stays, fold_end, others_long}
use Rattle.nz_log.proofs.sums.put_digest.Goals as goal
use Rattle.nz_log.proofs.sums.put_digest.Goals.{then-stays, else-stays}

pub loop-from-init : goal.loop-from-init
loop-from-init c =
    let es = c.args.entries.now in
    let place = c.args.place in
    let key = c.args.key in
    let ds = c.args.digests.now.items in
    let within = c.requires.within in
    let some : Entry = record { key = key; command = [] } in
    let x = get_or es place some in
    let long : length (without_place es place) + 1 ≡ length es = others_long es place key within in
    let old =
    c.digest_before-before.ensures (without_place es place) (subst (IsSummed (without_place es place)) (sym c.deref.ensures.value) c.requires.others) in
    let folded = c.fold_in.ensures ∙ ap (xor_bytes c.digest_before-before.result) c.of_entry.ensures in
    record {
      down = omega arith;
      long = ap (λ (n : ℕ). n + 1) c.requires.others.count ∙ long;
      room = c.requires.room;
      folding =
          fold_start es place key within ds x c.digest_before-before.result c.fold_in.new.self
          (get_or_default es place some x within) (c.requires.here some) c.requires.others old folded;
    }

pub loop-from-preserved : goal.loop-from-preserved
loop-from-preserved c =
    let es = c.args.entries.now in
    let place = c.args.place in
    let key = c.args.key in
    let within = c.requires.within in
    let from = c.loop-from.from in
    let kept = c.loop-from.kept in
    let ds = c.loop-from.digests.items in
    let before = c.loop-from.before in
    let sum = c.loop-from.sum in
    let next = c.index.result.now in
    let x = c.get.result.now in
    let old : length c.args.digests.now.items ≡ length (without_place es place) = c.requires.others.count in
    let all : length (without_place es place) + 1 ≡ length es = others_long es place key within in
    let size : vec_len c.args.digests.now ≡ length c.args.digests.now.items = c.args.digests.now.ok.0 in
    let end : c.len-from-end.result ≡ vec_len c.args.digests.now = c.len-from-end.ensures in
    let below : from < c.len-from-end.result = c.loop-from-test.true in
    let more : from + 1 < length es = omega (arith, old, all, size, end, below) in
    let down : kept ≤ from = c.loop-from.invariant.down in
    let long : length ds + 1 ≡ length es = c.loop-from.invariant.long in
    let there : from < length ds = omega (arith, long, more) in
    let after = c.loop-from.auto.from in
    let folding = c.loop-from.invariant.folding in
    elim c.if-stays.branch [
      | then-stays w ↦
          let stays : stays_after key x ≡ true = sym c.stays_after-stays.ensures ∙ w.if-stays.true in
          let now = fold_stays es place key within from kept ds before sum next x after more c.get.ensures c.index.ensures folding stays down there in
          let items : c.if-stays.digests.items ≡ set ds kept sum = ap (λ v. v.items) w.digests-is in
          let sums : c.if-stays.sum ≡ xor_bytes (xor_bytes sum before) next =
          w.sum-is ∙ w.fold_in-then-stays-2.ensures ∙ ap (λ (d : List ℕ). xor_bytes d next) w.fold_in-then-stays.ensures in
          record {
            down = let k = w.kept-is in omega (arith, k, down);
            long = ap (λ (l : List (List ℕ)). length l + 1) items ∙ ap (λ (n : ℕ). n + 1) (length-set ds kept sum) ∙ long;
            room = rw w.digests-is c.loop-from.invariant.room;
            folding = subst (λ (n : ℕ). IsFolding es place key (from + 1) n c.if-stays.digests.items next c.if-stays.sum) (sym w.kept-is)
                (subst (λ (s : List ℕ). IsFolding es place key (from + 1) (kept + 1) c.if-stays.digests.items next s) (sym sums)
                (subst (λ (l : List (List ℕ)). IsFolding es place key (from + 1) (kept + 1) l next (xor_bytes (xor_bytes sum before) next)) (sym items) now));
          }
      | else-stays w ↦
          let gone : stays_after key x ≡ false = sym c.stays_after-stays.ensures ∙ w.if-stays.false in
          let now = fold_gone es place key within from kept ds before sum next x after more c.get.ensures c.index.ensures folding gone in
          let items : c.if-stays.digests.items ≡ ds = ap (λ v. v.items) w.digests-is in
          record {
            down = let k = w.kept-is in omega (arith, k, down);
            long = ap (λ (l : List (List ℕ)). length l + 1) items ∙ long;
            room = rw w.digests-is c.loop-from.invariant.room;
            folding = subst (λ (n : ℕ). IsFolding es place key (from + 1) n c.if-stays.digests.items next c.if-stays.sum) (sym w.kept-is)
                (subst (λ (s : List ℕ). IsFolding es place key (from + 1) kept c.if-stays.digests.items next s) (sym w.sum-is)
                (subst (λ (l : List (List ℕ)). IsFolding es place key (from + 1) kept l next sum) (sym items) now));
          }
    ]

pub returns : goal.returns
returns c =
    let es = c.args.entries.now in
    let place = c.args.place in
    let key = c.args.key in
    let within = c.requires.within in
    let kept = c.loop-from.kept in
    let ds = c.loop-from.digests.items in
    let sum = c.loop-from.sum in
    let old : length c.args.digests.now.items ≡ length (without_place es place) = c.requires.others.count in
    let all : length (without_place es place) + 1 ≡ length es = others_long es place key within in
    let size : vec_len c.args.digests.now ≡ length c.args.digests.now.items = c.args.digests.now.ok.0 in
    let end : c.len-from-end.result ≡ vec_len c.args.digests.now = c.len-from-end.ensures in
    let done : c.len-from-end.result ≤ c.loop-from.from = c.loop-from-test.false in
    let items = c.push_reserved.ensures.items ∙ ap (λ (l : List (List ℕ)). l ++ sum ∷ []) c.truncate.ensures.items in
    subst (IsSummed (take (place + 1) es ++ filter (stays_after key) (drop (place + 1) es))) (sym items)
    (fold_end es place key within c.loop-from.from kept ds c.loop-from.before sum (omega (arith, old, all, size, end, done)) c.loop-from.invariant.folding)
