-- The digest of a list of keys, by its parts.
use Rattle.std.proofs.Common.{◌≡◌, ◌≢◌, ℕ, zero, suc, ◌<◌, List, [], ◌∷◌, ◌++◌, set, swap, length}
use Rattle.std.proofs.Common.{get_or, arith, refl, sym, ◌∙◌, ap, subst, ⊎_elim, IsPermutation}
use Rattle.std.proofs.lemmas.Bool.{cases_eq}
use Rattle.std.proofs.lemmas.List.{get_or-set_same, get_or-set_other, length-set}
use Rattle.std.proofs.lemmas.List.Sorted.{IsPermutation-keeps}
use Rattle.sha1.specs.Sha1.{sha1, digest_bytes}
use Rattle.nz_digest.specs.Digests.{EntryKey, key_bytes, digest_of_key, digest_of_none, digest, xor_bytes}
use Rattle.nz_digest.proofs.Bytes.{length-xor_bytes, xor_bytes-comm, xor_bytes-assoc, xor_bytes-twice}

length-digest_bytes : (h : List ℕ) → length (digest_bytes h 5) ≡ 20
unfolding digest_bytes
length-digest_bytes h = refl

pub length-sha1 : (m : List ℕ) → length (sha1 m) ≡ 20
unfolding sha1
length-sha1 m = length-digest_bytes _

-- the digest of a key that is one value
abbrev key_digest : EntryKey → List ℕ
key_digest key = digest_of_key key.deadline key.client key.num

length-key_digest : (key : EntryKey) → length (key_digest key) ≡ 20
length-key_digest key = length-sha1 (key_bytes key.deadline key.client key.num)

pub length-digest : (keys : List EntryKey) → length (digest keys) ≡ 20
length-digest [] = refl
length-digest (key ∷ keys) =
    length-xor_bytes (key_digest key) (digest keys) (length-key_digest key ∙ sym (length-digest keys)) ∙ length-key_digest key

pub digest-push : (keys : List EntryKey) (key : EntryKey) → digest (keys ++ key ∷ []) ≡ xor_bytes (digest keys) (key_digest key)
digest-push [] key = xor_bytes-comm (key_digest key) digest_of_none
digest-push (first ∷ keys) key =
    ap (xor_bytes (key_digest first)) (digest-push keys key) ∙ sym (xor_bytes-assoc (key_digest first) (digest keys) (key_digest key))

-- folding a key in twice leaves the digest of the others
twice-digest : (keys : List EntryKey) (key : EntryKey) → xor_bytes (xor_bytes (digest keys) (key_digest key)) (key_digest key) ≡ digest keys
twice-digest keys key = xor_bytes-twice (digest keys) (key_digest key) (length-digest keys ∙ sym (length-key_digest key))

-- a key in place of another one: the old one is folded out, and the new one in
digest-set : (keys : List EntryKey) (i : ℕ) (key d : EntryKey) → i < length keys
    → digest (set keys i key) ≡ xor_bytes (xor_bytes (digest keys) (key_digest (get_or keys i d))) (key_digest key)
digest-set [] i key d h = absurd (omega arith)
digest-set (first ∷ keys) zero key d h =
    xor_bytes-comm (key_digest key) (digest keys)
    ∙ ap (λ (w : List ℕ). xor_bytes w (key_digest key))
    (sym (ap (λ (w : List ℕ). xor_bytes w (key_digest first)) (xor_bytes-comm (key_digest first) (digest keys)) ∙ twice-digest keys first))
digest-set (first ∷ keys) (suc i) key d h =
    ap (xor_bytes (key_digest first)) (digest-set keys i key d (omega arith))
    ∙ sym (xor_bytes-assoc (key_digest first) (xor_bytes (digest keys) (key_digest (get_or keys i d))) (key_digest key))
    ∙ ap (λ (w : List ℕ). xor_bytes w (key_digest key)) (sym (xor_bytes-assoc (key_digest first) (digest keys) (key_digest (get_or keys i d))))

get_or-set : (keys : List EntryKey) (i j : ℕ) (d : EntryKey) → i < length keys → get_or (set keys i (get_or keys j d)) j d ≡ get_or keys j d
get_or-set keys i j d h = ⊎_elim
    (λ (same : j ≡ i). subst (λ (p : ℕ). get_or (set keys i (get_or keys p d)) p d ≡ get_or keys p d) (sym same) (get_or-set_same keys i (get_or keys i d) d h))
    (λ (other : j ≢ i). get_or-set_other keys i j (get_or keys j d) d other)
    (cases_eq j i)

digest-swap : (keys : List EntryKey) (i j : ℕ) → i < length keys → j < length keys → digest (swap keys i j) ≡ digest keys
digest-swap [] i j hi hj = refl
digest-swap (d ∷ rest) i j hi hj =
    let keys : List EntryKey = d ∷ rest in
    let at_i : EntryKey = get_or keys i d in
    let at_j : EntryKey = get_or keys j d in
    let once : List EntryKey = set keys i at_j in
    let first : digest once ≡ xor_bytes (xor_bytes (digest keys) (key_digest at_i)) (key_digest at_j) = digest-set keys i at_j d hi in
    let second : digest (set once j at_i) ≡ xor_bytes (xor_bytes (digest once) (key_digest (get_or once j d))) (key_digest at_i)
    = digest-set once j at_i d (let e : length once ≡ length keys = length-set keys i at_j in omega arith) in
    second ∙ ap (λ (w : List ℕ). xor_bytes w (key_digest at_i))
    (ap (λ (k : EntryKey). xor_bytes (digest once) (key_digest k)) (get_or-set keys i j d hi)
    ∙ ap (λ (w : List ℕ). xor_bytes w (key_digest at_j)) first
    ∙ xor_bytes-twice (xor_bytes (digest keys) (key_digest at_i)) (key_digest at_j)
    (length-xor_bytes (digest keys) (key_digest at_i) (length-digest keys ∙ sym (length-key_digest at_i)) ∙ length-digest keys ∙ sym (length-key_digest at_j)))
    ∙ twice-digest keys at_i

pub digest-rearranged : (keys rearranged : List EntryKey) → IsPermutation keys rearranged → digest rearranged ≡ digest keys
digest-rearranged keys rearranged h =
    IsPermutation-keeps keys (λ (l : List EntryKey). digest l ≡ digest keys) refl (λ l i j hi hj same. digest-swap l i j hi hj ∙ same) rearranged h
