-- Pieces appended one after the other.
use Rattle.std.proofs.Common.{◌≡◌, ℕ, List, ◌++◌, refl, append_assoc}

five : (o a u b c e : List ℕ) → ((((o ++ a) ++ u) ++ b) ++ c) ++ e ≡ o ++ (a ++ (u ++ (b ++ (c ++ e))))
five o a u b c e = simp append_assoc refl

pub joined : (o a u b c e s0 s1 s2 s3 s4 s5 : List ℕ) → s0 ≡ o → s1 ≡ s0 ++ a → s2 ≡ s1 ++ u → s3 ≡ s2 ++ b → s4 ≡ s3 ++ c → s5 ≡ s4 ++ e → s5 ≡ o ++ (a ++ (u ++ (b ++ (c ++ e))))
joined o a u b c e s0 s1 s2 s3 s4 s5 p0 p1 p2 p3 p4 p5 = rw (p5, p4, p3, p2, p1, p0) (five o a u b c e)
