-- The definitions at one key; the digest is that of the tool sha1sum on the key's 16 bytes.
use Rattle.std.proofs.Common.{◌≡◌, [], ◌∷◌, replicate, refl}
use Rattle.sha1.specs.Sha1.{first_words, schedule, rounds, compress, hash_after, digest_bytes, sha1}
use Rattle.nz_digest.specs.Digests.{key_bytes, digest}

pub bytes_of_key : key_bytes 12500 0 1 ≡ 0 ∷ 0 ∷ 0 ∷ 0 ∷ 0 ∷ 0 ∷ 0x30 ∷ 0xd4 ∷ 0 ∷ 0 ∷ 0 ∷ 0 ∷ 0 ∷ 0 ∷ 0 ∷ 1 ∷ []
unfolding key_bytes
bytes_of_key = refl

pub digest_of_one : digest (record { deadline = 12500; client = 0; num = 1 } ∷ [])
    ≡ 103 ∷ 167 ∷ 139 ∷ 190 ∷ 229 ∷ 235 ∷ 123 ∷ 189 ∷ 97 ∷ 50 ∷ 32 ∷ 169 ∷ 46 ∷ 3 ∷ 33 ∷ 137 ∷ 85 ∷ 51 ∷ 45 ∷ 238 ∷ []
unfolding key_bytes first_words schedule rounds compress hash_after digest_bytes sha1
digest_of_one = refl

pub digest_of_no_entry : digest [] ≡ replicate 20 0
digest_of_no_entry = refl
