-- Pieces of a pool, one after another.
use Rattle.pmt_image.proofs.Prelude.{◌≡◌, ℕ, suc, ◌+◌, ◌-◌, ◌<◌, ◌≤◌, List, [], ◌∷◌, ◌++◌, length, take, Option, refl, sym, ap, ap₂, subst, ◌∙◌, arith, length-append, reverse, Result, Ok, Err, take_all, length-take, Consumes, Appends, Written, Image, Recording, history, Pool, StoreFault, written_by, FindsFault, over, AllInside, IsRefused, refusal_of, IsCopied, IsEndedBy, Copies, WritesImage, copy_result, image_after, copy_reads, copy_writes, image_reads, image_writes}
use Rattle.std.proofs.KnownBytes.{Appends-trans, Consumes-trans, Keeps-refl}
use Rattle.pmt_image.specs.declared.crash.Crash.{Crash}
use Rattle.pmt_image.specs.declared.persisting.StoreFault.TheVariants as stores
use Rattle.pmt_image.specs.declared.copying.Stop.{Stop}
use Rattle.pmt_image.specs.declared.copying.Stop.TheVariants as stops
use Rattle.pmt_image.specs.declared.copying.CopyFault.{CopyFault}
use Rattle.pmt_image.specs.declared.copying.ImageFault.{ImageFault}
use Rattle.pmt_image.proofs.OverLemmas.{over-length, over-append, over-take, over-same}

take-past : (xs ys : List ℕ) (k : ℕ) → take (length xs + k) (xs ++ ys) ≡ xs ++ take k ys
take-past [] ys k = let e : 0 + k ≡ k = omega arith in ap (λ n. take n ys) e
take-past (x ∷ xs) ys k =
    let e : suc (length xs) + k ≡ suc (length xs + k) = omega arith in
    ap (λ n. take n (x ∷ (xs ++ ys))) e ∙ ap (λ zs. x ∷ zs) (take-past xs ys k)

pub copied-same : (f g : Image) (at : ℕ) (bytes : List ℕ) (out : ℕ) (r s w v : Option (List ℕ)) → ((a : ℕ) → f a ≡ g a) → IsCopied f at bytes out r s w v → IsCopied g at bytes out r s w v
copied-same f g at bytes out r s w v same x = record {
  taken = x.taken;
  given = let P : List ℕ → Type 0 = λ zs. Appends w v (take out zs) in subst P (over-same f g at bytes same) x.given;
  within = x.within;
}

-- all that was read is out
all-out : (image : Image) (at : ℕ) (bytes : List ℕ) (w v : Option (List ℕ)) → Appends w v (take (length bytes) (over image at bytes)) → Appends w v (over image at bytes)
all-out image at bytes w v out =
    let P : List ℕ → Type 0 = λ zs. Appends w v zs in subst P (take_all (length bytes) (over image at bytes) (omega (arith, over-length image at bytes))) out

pub copied-out : (image : Image) (at : ℕ) (bytes : List ℕ) (size : ℕ) (r s w v : Option (List ℕ)) → length bytes ≡ size → IsCopied image at bytes size r s w v → Appends w v (over image at bytes)
copied-out image at bytes size r s w v long x = all-out image at bytes w v (let P : ℕ → Type 0 = λ n. Appends w v (take n (over image at bytes)) in subst P (sym long) x.given)

-- and then a piece, or the first bytes of it
pub copied-more : (image : Image) (at done : ℕ) (bytes piece : List ℕ) (k : ℕ) (r s t w v u : Option (List ℕ)) → length bytes ≡ done →
    IsCopied image at bytes done r s w v → IsCopied image (at + done) piece k s t v u → IsCopied image at (bytes ++ piece) (done + k) r t w u
copied-more image at done bytes piece k r s t w v u long x y =
    let before : Appends w v (over image at bytes) = copied-out image at bytes done r s w v long x in
    let after : Appends v u (take k (over image (at + length bytes) piece)) = (let P : ℕ → Type 0 = λ n. Appends v u (take k (over image (at + n) piece)) in subst P (sym long) y.given) in
    let joined = Appends-trans w v u (over image at bytes) (take k (over image (at + length bytes) piece)) before after in
    let total : length (over image at bytes) + k ≡ done + k = omega (arith, over-length image at bytes) in
    let text : over image at bytes ++ take k (over image (at + length bytes) piece) ≡ take (done + k) (over image at (bytes ++ piece)) =
    sym (take-past (over image at bytes) (over image (at + length bytes) piece) k) ∙ ap₂ (λ (n : ℕ) (zs : List ℕ). take n zs) total (sym (over-append image at bytes piece)) in
    record {
      taken = Consumes-trans r s t bytes piece x.taken y.taken;
      given = (let P : List ℕ → Type 0 = λ zs. Appends w u zs in subst P text joined);
      within = omega (arith, length-append {A = ℕ}, y.within);
    }

-- one piece, of which the first k bytes are out
pub copied-piece : (image : Image) (at n k : ℕ) (read laid : List ℕ) (r s w v : Option (List ℕ)) → n ≤ length read → laid ≡ over image at read → k ≤ n →
    Consumes r s (take n read) → Appends w v (take k (take n laid)) → IsCopied image at (take n read) k r s w v
copied-piece image at n k read laid r s w v within is few taken given = record {
  taken = taken;
  given = (let P : List ℕ → Type 0 = λ zs. Appends w v (take k zs) in subst P (ap (take n) is ∙ over-take image at n read) given);
  within = omega (arith, length-take n read);
}

-- what ended the last piece ended the copying
pub ended-more : (stop : Stop) (size done k : ℕ) (bytes piece : List ℕ) (s : Option (List ℕ)) → length bytes ≡ done → done < size → IsEndedBy stop (size - done) piece k s →
    IsEndedBy stop size (bytes ++ piece) (done + k) s
ended-more stops.Read size done k bytes piece s long less ended = omega (arith, length-append {A = ℕ}, long, ended)
ended-more stops.Short size done k bytes piece s long less (all, short, end) = (
  omega (arith, length-append {A = ℕ}, long, all),
  omega (arith, length-append {A = ℕ}, long, less, short),
  end,
)
ended-more stops.Write size done k bytes piece s long less ended = tt

-- ---- The whole pool

pub image-written : (T : Recording) (crash : Crash) (pool : Pool) (found listed : List Written) (r s w v : Option (List ℕ)) (done : Result (Unit {0}) CopyFault) (result : Result (Unit {0}) ImageFault) →
    result ≡ copy_result done → listed ≡ found → AllInside pool (history T crash.place) → ((a : ℕ) → written_by (reverse found) a ≡ image_after T crash a) →
    Copies (written_by (reverse listed)) pool.origin pool.size r s w v done → WritesImage T crash pool r s w v result
image-written T crash pool found listed r s w v done result told same inside image copies = let P : Result (Unit {0}) ImageFault → Type 0 = λ x. WritesImage T crash pool r s w v x in subst P (sym told) (go done copies)
  where
    each : (a : ℕ) → written_by (reverse listed) a ≡ image_after T crash a
    each a = ap (λ ws. written_by (reverse ws) a) same ∙ image a

    go : (x : Result (Unit {0}) CopyFault) → Copies (written_by (reverse listed)) pool.origin pool.size r s w v x → WritesImage T crash pool r s w v (copy_result x)
    go (Ok u) (base, long, out) =
        let out_now = copied-same (written_by (reverse listed)) (image_after T crash) pool.origin base pool.size r s w v each out in
        (base, over (image_after T crash) pool.origin base, out.taken, record { whole = long; inside = inside; bytes_are = refl }, copied-out (image_after T crash) pool.origin base pool.size r s w v long out_now)
    go (Err fault) (base, few, out, ended) = (base, few, copied-same (written_by (reverse listed)) (image_after T crash) pool.origin base fault.written r s w v each out, ended)

-- a pool that is refused
pub image-refused : (T : Recording) (crash : Crash) (pool : Pool) (r w : Option (List ℕ)) (fault : StoreFault) (told : ImageFault) → told ≡ refusal_of fault → FindsFault T crash.place pool fault → WritesImage T crash pool r r w w (Err told)
image-refused T crash pool r w fault told is found = let P : ImageFault → Type 0 = λ x. WritesImage T crash pool r r w w (Err x) in subst P (sym is) (go fault found)
  where
    go : (x : StoreFault) → FindsFault T crash.place pool x → WritesImage T crash pool r r w w (Err (refusal_of x))
    go (stores.Outside event address) outside = (outside, Keeps-refl r, Keeps-refl w)
    go stores.OutOfMemory none = (Keeps-refl r, Keeps-refl w)

pub refused-why : (T : Recording) (n : ℕ) (pool : Pool) (fault : StoreFault) (told : ImageFault) → told ≡ refusal_of fault → FindsFault T n pool fault → IsRefused T n pool told
refused-why T n pool fault told is found = let P : ImageFault → Type 0 = λ x. IsRefused T n pool x in subst P (sym is) (go fault found)
  where
    go : (x : StoreFault) → FindsFault T n pool x → IsRefused T n pool (refusal_of x)
    go (stores.Outside event address) outside = outside
    go stores.OutOfMemory none = tt

-- it fails no call
pub refused-counts : (n : ℕ) (fault : StoreFault) (told : ImageFault) → told ≡ refusal_of fault → (n ≡ n + image_reads {A = Unit {0}} (Err told)) × (n ≡ n + image_writes {A = Unit {0}} (Err told))
refused-counts n fault told is = let P : ImageFault → Type 0 = λ x. (n ≡ n + image_reads {A = Unit {0}} (Err x)) × (n ≡ n + image_writes {A = Unit {0}} (Err x)) in subst P (sym is) (go fault)
  where
    go : (x : StoreFault) → (n ≡ n + image_reads {A = Unit {0}} (Err (refusal_of x))) × (n ≡ n + image_writes {A = Unit {0}} (Err (refusal_of x)))
    go (stores.Outside event address) = (omega arith, omega arith)
    go stores.OutOfMemory = (omega arith, omega arith)

-- the copying's failed calls are the whole's
pub image-reads : (done : Result (Unit {0}) CopyFault) (result : Result (Unit {0}) ImageFault) → result ≡ copy_result done → image_reads result ≡ copy_reads done
image-reads done result told = ap (λ x. image_reads x) told ∙ go done
  where
    go : (x : Result (Unit {0}) CopyFault) → image_reads (copy_result x) ≡ copy_reads x
    go (Ok u) = refl
    go (Err fault) = refl

pub image-writes : (done : Result (Unit {0}) CopyFault) (result : Result (Unit {0}) ImageFault) → result ≡ copy_result done → image_writes result ≡ copy_writes done
image-writes done result told = ap (λ x. image_writes x) told ∙ go done
  where
    go : (x : Result (Unit {0}) CopyFault) → image_writes (copy_result x) ≡ copy_writes x
    go (Ok u) = refl
    go (Err fault) = refl
