-- The samples of a payload, by their number and their places.
use Rattle.std.proofs.Common.{◌≡◌, ℕ, zero, suc, ◌+◌, ◌*◌, ◌/◌, ◌%◌, ◌<◌, List, [], ◌∷◌, ◌++◌, length, get_or, take, drop, ℤ, pos, Some, refl, ap, ◌∙◌, arith}
use Rattle.std.specs.List.{slice_get}
use Rattle.std.specs.Simd.{first_chunks}
use Rattle.std.proofs.lemmas.List.{get_or-take, get_or-drop}
use Rattle.std.proofs.lemmas.Option.{slice_get-get_or}
use Rattle.std.proofs.lemmas.Int.{ints}
use Rattle.model.specs.Ranges.{InRange}
use Rattle.blocks.specs.Samples.{sample_of, samples_of}

pub length_samples : (bytes : List ℕ) → length (samples_of bytes) ≡ length bytes / 2
length_samples [] = refl
length_samples (b ∷ []) = refl
length_samples (low ∷ high ∷ bytes) = omega (arith, length_samples bytes)

twice : (i : ℕ) → 2 * suc i ≡ suc (suc (2 * i))
twice i = omega arith

pub get_d_samples : (bytes : List ℕ) (i : ℕ) (d : ℤ) → i < length (samples_of bytes) → get_or (samples_of bytes) i d ≡ sample_of (get_or bytes (2 * i) 0) (get_or bytes (2 * i + 1) 0)
get_d_samples [] i d h = absurd (omega arith)
get_d_samples (b ∷ []) i d h = absurd (omega arith)
get_d_samples (low ∷ high ∷ bytes) zero d h = refl
get_d_samples (low ∷ high ∷ bytes) (suc i) d h =
    let more : 2 * suc i + 1 ≡ suc (suc (2 * i + 1)) = omega arith in
    rw (more, twice i) (get_d_samples bytes i d (omega arith))

pub nth_samples : (bytes : List ℕ) (i : ℕ) → i < length (samples_of bytes) → slice_get (samples_of bytes) i ≡ Some (sample_of (get_or bytes (2 * i) 0) (get_or bytes (2 * i + 1) 0))
nth_samples bytes i h = slice_get-get_or (samples_of bytes) i (pos 0) h ∙ ap (λ (z : ℤ). Some z) (get_d_samples bytes i (pos 0) h)

-- the bytes of the pair at an index
pub pair_at : (k : ℕ) (bytes : List ℕ) (i j : ℕ) (d : List ℕ) → i < k → j < 2 → get_or (get_or (first_chunks 2 k bytes) i d) j 0 ≡ get_or bytes (2 * i + j) 0
pair_at zero bytes i j d h l = absurd (omega arith)
pair_at (suc k) bytes zero j d h l =
    let same : j ≡ 2 * 0 + j = omega arith in
    get_or-take 2 bytes j 0 l ∙ ap (λ (n : ℕ). get_or bytes n 0) same
pair_at (suc k) bytes (suc i) j d h l =
    let more : 2 + (2 * i + j) ≡ 2 * suc i + j = omega arith in
    pair_at k (drop 2 bytes) i j d (omega arith) l ∙ get_or-drop 2 bytes (2 * i + j) 0 ∙ ap (λ (n : ℕ). get_or bytes n 0) more

-- the samples of bytes one after the other
pub samples_append : (xs ys : List ℕ) → length xs % 2 ≡ 0 → samples_of (xs ++ ys) ≡ samples_of xs ++ samples_of ys
samples_append [] ys e = refl
samples_append (b ∷ []) ys e = absurd (omega arith)
samples_append (low ∷ high ∷ xs) ys e = ap (λ (zs : List ℤ). sample_of low high ∷ zs) (samples_append xs ys (omega arith))

-- two bytes more
pub samples_push : (bytes : List ℕ) (low high : ℕ) → length bytes % 2 ≡ 0 → samples_of (bytes ++ low ∷ high ∷ []) ≡ samples_of bytes ++ sample_of low high ∷ []
samples_push bytes low high e = samples_append bytes (low ∷ high ∷ []) e

-- the first i samples, and those after them
pub samples_take : (i : ℕ) (bytes : List ℕ) → samples_of (take (2 * i) bytes) ≡ take i (samples_of bytes)
samples_take zero bytes = refl
samples_take (suc i) [] = rw (twice i)
samples_take (suc i) (b ∷ []) = rw (twice i)
samples_take (suc i) (low ∷ high ∷ bytes) = rw (twice i, samples_take i bytes)

pub samples_drop : (i : ℕ) (bytes : List ℕ) → samples_of (drop (2 * i) bytes) ≡ drop i (samples_of bytes)
samples_drop zero bytes = refl
samples_drop (suc i) [] = rw (twice i)
samples_drop (suc i) (b ∷ []) = rw (twice i)
samples_drop (suc i) (low ∷ high ∷ bytes) = rw (twice i) (samples_drop i bytes)

pub sample_in_range : (low high : ℕ) → low < 256 → high < 256 → InRange (sample_of low high)
sample_in_range low high l h = grind (arith, ints)
