-- The digest of a log, one entry more.
use Rattle.std.proofs.Common.{◌≡◌, ℕ, suc, ◌+◌, ◌<◌, List, [], ◌∷◌, ◌++◌, length, map, take, get_or, sym, ap, ◌∙◌, arith, length-append}
use Rattle.std.proofs.lemmas.List.{take_more, take_all, map-append}
use Rattle.nz_base.specs.declared.key.Entry.{Entry}
use Rattle.nz_digest.specs.Digests.{digest, digest_of_key, xor_bytes}
use Rattle.nz_digest.proofs.Bytes.{xor_bytes-assoc, xor_bytes-comm, xor_bytes-twice}
use Rattle.nz_digest.proofs.Keys.{digest-push}
use Rattle.nz_log.specs.Places.{entry_key, digest_of_log, digest_at}

pub digest_push : (es : List Entry) (e : Entry)
    → digest_of_log (es ++ e ∷ []) ≡ xor_bytes (digest_of_log es) (digest_of_key e.key.deadline e.key.client e.key.num)
digest_push es e = ap digest (map-append entry_key es (e ∷ [])) ∙ digest-push (map entry_key es) (entry_key e)

pub digest_more : (es : List Entry) (k : ℕ) (e : Entry) → k < length es → e ≡ get_or es k e
    → digest_of_log (take (k + 1) es) ≡ xor_bytes (digest_of_log (take k es)) (digest_of_key e.key.deadline e.key.client e.key.num)
digest_more es k e within is =
    ap digest_of_log (take_more es k e within ∙ ap (λ (x : Entry). take k es ++ x ∷ []) (sym is)) ∙ digest_push (take k es) e

pub digest_last : (es : List Entry) (e : Entry)
    → digest_at (es ++ e ∷ []) (length es) ≡ xor_bytes (digest_of_log es) (digest_of_key e.key.deadline e.key.client e.key.num)
digest_last es e =
    let long : length (es ++ e ∷ []) ≡ length es + 1 = length-append es (e ∷ []) in
    ap digest_of_log (take_all (suc (length es)) (es ++ e ∷ []) (omega (arith, long))) ∙ digest_push es e

-- a hash that was added to one digest is added to another one
pub fold_over : (sum before own : List ℕ) → length before ≡ length own → xor_bytes (xor_bytes sum before) (xor_bytes before own) ≡ xor_bytes sum own
fold_over sum before own same =
    xor_bytes-assoc sum before (xor_bytes before own)
    ∙ ap (xor_bytes sum) (ap (xor_bytes before) (xor_bytes-comm before own)
    ∙ xor_bytes-comm before (xor_bytes own before) ∙ xor_bytes-twice own before (sym same))
