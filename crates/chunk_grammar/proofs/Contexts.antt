-- Streams that join a context.
use Rattle.std.proofs.Common.{◌≡◌, ◌≢◌, ℕ, List, [], ◌∷◌, ◌++◌, None, refl, arith}
use Rattle.std.proofs.lemmas.Grind.{common_steps}
use Rattle.std.proofs.lemmas.Bool.Decides.{nat_tests}
use Rattle.xdf_model.specs.declared.types.Shape.{Shape}
use Rattle.chunk_grammar.specs.Chunk.{Context, HasDistinctIds, shape_of}

-- a stream of another id doesn't change that this id has none
none_more : (ctx : Context) (id other : ℕ) (shape : Shape) → shape_of ctx id ≡ None → other ≢ id → shape_of (ctx ++ (other, shape) ∷ []) id ≡ None
none_more [] id other shape none differs = grind (arith, common_steps, nat_tests, differs)
none_more (s ∷ more) id other shape none differs = grind (arith, common_steps, nat_tests, none, none_more more id other shape)

-- a stream whose id has no shape joins
pub distinct_more : (ctx : Context) (id : ℕ) (shape : Shape) → HasDistinctIds ctx → shape_of ctx id ≡ None → HasDistinctIds (ctx ++ (id, shape) ∷ [])
distinct_more [] id shape distinct none = (refl, tt)
distinct_more (s ∷ more) id shape distinct none =
    let differs : id ≢ s.0 = λ same. absurd (grind (arith, common_steps, nat_tests, none, same)) in
    let rest : shape_of more id ≡ None = grind (arith, common_steps, nat_tests, none) in
    (none_more more s.0 id shape distinct.0 differs, distinct_more more id shape distinct.1 rest)
