-- How many bytes are held, where more are wanted.
use Rattle.std.proofs.Common.{◌≡◌, ℕ, ◌+◌, ◌-◌, ◌<◌, ◌≤◌, List, [], length, take, drop, Option, Some, None, Result, Ok, Err, IfOk, OnErr, refl, sym, ap, subst, arith}
use Rattle.std.proofs.lemmas.List.{length-append, length-take}
use Rattle.rec_base.specs.Known.{Moves}
use Rattle.reading_model.specs.Rules.{short}
use Rattle.piece_reader.specs.Steps.{Wants}
use Rattle.chunk_grammar.specs.Chunk.{Context}
use Rattle.chunk_grammar.specs.Standing.{Standing, whole, torn, bad, standing_at}
use Rattle.file_model.specs.declared.end.FileEnd.{FileEnd}
use Rattle.file_model.specs.Reader.{FileState, by_standing, file_rules}
use Rattle.file_reader.specs.FileInlet.{FileInlet}
use Rattle.file_reader.proofs.Passing.{seen}
use Rattle.file_reader.proofs.Torn.{torn_size}

-- a read adds no more than was asked for
pub grown : {E : Type 0} (r : Result ℕ E) (before after : Option (List ℕ)) (old new : List ℕ) (most : ℕ) → IfOk r (Moves before after old new) → IfOk r (λ n. n ≤ most) → OnErr r (new ≡ old)
    → (length old ≤ length new) × (length new ≤ length old + most)
grown (Ok n) before after old new most m le kept = (omega (arith, ap length m.gained, length-append old m.bytes), omega (arith, ap length m.gained, length-append old m.bytes, m.count, le))
grown (Err e) before after old new most m le kept = (omega (arith, ap length kept), omega (arith, ap length kept))

pub no_last : (now : FileInlet) (ending : Option FileEnd) (context : Context) (place last : ℕ) (bytes : List ℕ) (limit : ℕ) → seen ending context place last bytes limit ≡ now → now.last ≡ [] → last ≤ length bytes → last ≡ 0
no_last now ending context place last bytes limit v none le =
    let same : take last bytes ≡ [] = subst (λ (x : FileInlet). x.last ≡ []) (sym v) none in
    omega (arith, ap length same, length-take last bytes, le)

pub short_is_torn : (s : FileState) (x : Standing) → by_standing s x ≡ short → x ≡ torn
short_is_torn s (whole c used) e = absurd cc
short_is_torn s torn e = refl
short_is_torn s (bad place reason) e = absurd cc

pub rest_size : (now : FileInlet) (ending : Option FileEnd) (context : Context) (place last : ℕ) (bytes : List ℕ) (limit : ℕ) → seen ending context place last bytes limit ≡ now → Wants file_rules now.reading
    → (length (drop last bytes) < 67_108_873) × (length (drop last bytes) ≤ limit - place)
rest_size now (Some e) context place last bytes limit v w = absurd (subst (λ (x : FileInlet). Wants file_rules x.reading) (sym v) w)
rest_size now None context place last bytes limit v w =
    let here : Wants file_rules (seen None context place last bytes limit).reading = subst (λ (x : FileInlet). Wants file_rules x.reading) (sym v) w in
    (torn_size context (drop last bytes) (short_is_torn (record { context = context; place = place }) (standing_at context (drop last bytes)) here.0), here.1)
