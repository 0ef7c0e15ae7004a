-- Counts of persisted stores that a crash may leave, in a trace and in the trace cut to a part.
use Rattle.pmt_part_laws.proofs.Prelude.{ℕ, ◌+◌, ◌≤◌, List, arith, ◌↔◌, Vectors, InBox, Recording, history, count_at, VectorsAt, front_at, front-mono, front-le-count, IsPart, PartVectors}
use Rattle.pmt_laws.proofs.BoxLemmas.{vectors_are_a_box}
use Rattle.pmt_part_laws.proofs.StepLemmas.{part_history}
use Rattle.pmt_part_laws.proofs.FrontLemmas.{count-part, front-part}

-- no crash leaves less than the front at an earlier place
pub least-vector : (T : Recording) (q n l : ℕ) (v : ℕ → ℕ) → q ≤ n → VectorsAt T n v → front_at T l q ≤ v l
least-vector T q n l v later ends = let box = (vectors_are_a_box (history T n) v).0 ends in omega (arith, (box l).0, front-mono T l q n later)

-- counts are in the box of the part where they are in that of the whole with the front at place q added
box-same : (T : Recording) (q r : ℕ) (K : List ℕ) (n : ℕ) (v : ℕ → ℕ) → IsPart T q r K → q ≤ n → n ≤ r → InBox (part_history T K n) v ↔ InBox (history T n) (λ l. v l + front_at T l q)
box-same T q r K n v part after within = (there, back)
  where
    above : (l : ℕ) → (front_at T l q ≤ front_at T l n) × (front_at T l n ≤ count_at T l n)
    above l = (front-mono T l q n after, front-le-count l (history T n))

    there : InBox (part_history T K n) v → InBox (history T n) (λ l. v l + front_at T l q)
    there box l = (omega (arith, (box l).0, front-part T q r K l n part within), omega (arith, (box l).1, count-part T q r K l n part within, (above l).0, (above l).1))

    back : InBox (history T n) (λ l. v l + front_at T l q) → InBox (part_history T K n) v
    back box l = (omega (arith, (box l).0, front-part T q r K l n part within), omega (arith, (box l).1, count-part T q r K l n part within))

pub same-vectors : (T : Recording) (q r : ℕ) (K : List ℕ) (n : ℕ) (v : ℕ → ℕ) → IsPart T q r K → q ≤ n → n ≤ r → Vectors (part_history T K n) v ↔ VectorsAt T n (λ l. v l + front_at T l q)
same-vectors T q r K n v part after within = (
  λ ends. (vectors_are_a_box (history T n) (λ l. v l + front_at T l q)).1 ((box-same T q r K n v part after within).0 ((vectors_are_a_box (part_history T K n) v).0 ends)),
  λ ends. (vectors_are_a_box (part_history T K n) v).1 ((box-same T q r K n v part after within).1 ((vectors_are_a_box (history T n) (λ l. v l + front_at T l q)).0 ends)),
)

pub part_vectors : PartVectors
part_vectors = record { least = least-vector; same = same-vectors }
