-- Texts that are pushed piece by piece.
use Rattle.std.proofs.Common.{◌≡◌, ℕ, List, ◌++◌, ap, ◌∙◌, append_assoc}

-- one more piece
push-on : (s t u a b : List ℕ) → t ≡ s ++ a → u ≡ t ++ b → u ≡ s ++ (a ++ b)
push-on s t u a b e f = f ∙ ap (λ (x : List ℕ). x ++ b) e ∙ append_assoc s a b

-- a text after three, four or five pieces
pub pushed-3 : (s s1 s2 s3 a b c : List ℕ) → s1 ≡ s ++ a → s2 ≡ s1 ++ b → s3 ≡ s2 ++ c → s3 ≡ s ++ (a ++ b ++ c)
pushed-3 s s1 s2 s3 a b c e f g = push-on s s2 s3 (a ++ b) c (push-on s s1 s2 a b e f) g
