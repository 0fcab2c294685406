-- What an answer tells of the bytes from the place on.
use Rattle.std.proofs.Common.{◌≡◌, ℕ, ◌+◌, ◌-◌, ◌<◌, ◌≤◌, false, List, [], ◌++◌, length, take, drop, Option, Some, None, refl, sym, ap, ◌∙◌, subst, append_assoc, arith}
use Rattle.std.proofs.lemmas.List.{append-nil, length-append}
use Rattle.std.specs.Io.KnownBytes.{Consumes, IsAtEnd, Keeps}
use Rattle.std.proofs.KnownBytes.{Consumes-nil, Consumes-trans, Consumes-kept}
use Rattle.xdf_model.specs.declared.types.Why.{Why}
use Rattle.reading_model.specs.Reading.{Reading, done}
use Rattle.piece_reader.specs.Steps.{Wants}
use Rattle.chunk_grammar.specs.Chunk.{Context}
use Rattle.chunk_grammar.specs.Standing.{bad, standing_at}
use Rattle.file_model.specs.declared.end.FileEnd.{FileEnd}
use Rattle.file_model.specs.declared.end.FileEnd.TheVariants as end
use Rattle.file_model.specs.declared.next.Next.{Next}
use Rattle.file_model.specs.declared.next.Next.TheVariants.{Chunk, End, Torn, Bad, ReadFault, SizeLimit, Memory}
use Rattle.file_model.specs.Reader.{FileState, file_rules, end_reading}
use Rattle.file_reader.specs.FileInlet.{FileInlet, HasStopped, IsSkipped, KeepsAll, RestIs, Stops, Tells}
use Rattle.file_reader.specs.declared.rest.Rest.{Rest}
use Rattle.file_reader.specs.Kept.{IsOfBytes, IsShort, with_more, with_reading}
use Rattle.file_reader.proofs.Passing.{seen}
use Rattle.file_reader.proofs.Rooms.{rest_size, short_is_torn}

-- what is told of the bytes that count
pub bad_told : (now : FileInlet) (ending : Option FileEnd) (context : Context) (place last : ℕ) (bytes : List ℕ) (limit at : ℕ) (why : Why) (counted : List ℕ) → seen ending context place last bytes limit ≡ now
    → counted ≡ take (limit - place) (drop last bytes) → standing_at context counted ≡ bad at why → Tells (with_reading now (done (end.Bad (place + at) why))) (end_reading (end.Bad (place + at) why))
bad_told now ending context place last bytes limit at why counted v is found =
    subst (λ (x : FileInlet). Tells (with_reading x (done (end.Bad (place + at) why))) (end_reading (end.Bad (place + at) why))) v (refl, at, refl, ap (standing_at context) (sym is) ∙ found)

pub limit_told : (now : FileInlet) (ending : Option FileEnd) (context : Context) (place last : ℕ) (bytes : List ℕ) (limit : ℕ) → seen ending context place last bytes limit ≡ now → IsShort now.reading
    → place ≤ limit → limit - place < length (drop last bytes) → Tells (with_reading now (done end.SizeLimit)) (end_reading end.SizeLimit)
limit_told now (Some e) context place last bytes limit v short low more = absurd (subst (λ (x : FileInlet). IsShort x.reading) (sym v) short)
limit_told now None context place last bytes limit v short low more =
    let here : IsShort (seen None context place last bytes limit).reading = subst (λ (x : FileInlet). IsShort x.reading) (sym v) short in
    subst (λ (x : FileInlet). Tells (with_reading x (done end.SizeLimit)) (end_reading end.SizeLimit)) v
    (omega (arith, more, low), short_is_torn (record { context = context; place = place }) (standing_at context (take (limit - place) (drop last bytes))) here)

pub fault_told : (now new : FileInlet) (next : Next) (ending : Option FileEnd) (context : Context) (place last : ℕ) (bytes : List ℕ) (limit : ℕ) → seen ending context place last bytes limit ≡ now → Wants file_rules now.reading
    → place ≤ limit → next ≡ ReadFault → new ≡ with_reading now (done end.ReadFault) → Tells new next
fault_told now new next ending context place last bytes limit v w low is over =
    let size = rest_size now ending context place last bytes limit v w in
    let within : place + length (drop last bytes) ≤ limit = omega (arith, size.1, low) in
    let here : now.place + length now.ahead ≤ now.byte_limit = subst (λ (x : FileInlet). x.place + length x.ahead ≤ x.byte_limit) v within in
    let there : Tells new ReadFault = subst (λ (x : FileInlet). Tells x ReadFault) (sym over) here in
    subst (λ (n : Next). Tells new n) (sym is) there

-- ---- where the reader has stopped

pub stops_by_bytes : (left : Option (List ℕ)) (x : FileInlet) (next : Next) → IsOfBytes next → Tells x next → Stops left x next
stops_by_bytes left x (Chunk at c) b t = tt
stops_by_bytes left x (End at) b t = absurd b
stops_by_bytes left x (Torn at n) b t = absurd b
stops_by_bytes left x (Bad at why) b t = subst (λ (r : Reading FileState FileEnd). HasStopped left x r) (sym t.0) tt
stops_by_bytes left x ReadFault b t = tt
stops_by_bytes left x SizeLimit b t = tt
stops_by_bytes left x Memory b t = tt

pub stops_at_end : (left : Option (List ℕ)) (x : FileInlet) (next : Next) → IsAtEnd left → Tells x next → Stops left x next
stops_at_end left x (Chunk at c) h t = tt
stops_at_end left x (End at) h t = subst (λ (r : Reading FileState FileEnd). HasStopped left x r) (sym t.0) (h, t.3)
stops_at_end left x (Torn at n) h t = subst (λ (r : Reading FileState FileEnd). HasStopped left x r) (sym t.0) (h, t.4)
stops_at_end left x (Bad at why) h t = subst (λ (r : Reading FileState FileEnd). HasStopped left x r) (sym t.0) tt
stops_at_end left x ReadFault h t = tt
stops_at_end left x SizeLimit h t = tt
stops_at_end left x Memory h t = tt

pub stops_at_fault : (left : Option (List ℕ)) (x : FileInlet) (next : Next) → next ≡ ReadFault → Stops left x next
stops_at_fault left x next e = subst (λ (n : Next). Stops left x n) (sym e) tt

-- ---- bytes that were taken stand behind those that were there

pub record Took (before left : Option (List ℕ)) (old new : List ℕ) : Type 0 where
  pub bytes : List ℕ
  pub lost : Consumes before left bytes
  pub gained : new ≡ old ++ bytes

pub took_none : (a : Option (List ℕ)) (old new : List ℕ) → new ≡ old → Took a a old new
took_none a old new is = record { bytes = []; lost = Consumes-nil a; gained = is ∙ sym (append-nil old) }

pub took_more : (a b c : Option (List ℕ)) (old bytes : List ℕ) (here mid new : FileInlet) → Took a b old here.ahead → mid ≡ here → Consumes b c bytes → new ≡ with_more mid bytes → Took a c old new.ahead
took_more a b c old bytes here mid new k same lost is =
    record {
      bytes = k.bytes ++ bytes;
      lost = Consumes-trans a b c k.bytes bytes k.lost lost;
      gained = ap (λ (x : FileInlet). x.ahead) is ∙ ap (λ (x : FileInlet). x.ahead ++ bytes) same ∙ ap (λ (l : List ℕ). l ++ bytes) k.gained ∙ append_assoc old k.bytes bytes;
    }

-- an answer behind them
pub took_all : (a b : Option (List ℕ)) (old mid new : FileInlet) → Took a b old.ahead mid.ahead → mid.ahead ≡ new.last ++ new.ahead → KeepsAll a b old new
took_all a b old mid new k is = (k.bytes, k.lost, sym k.gained ∙ is)

-- an end behind them, where another read gave nothing
pub took_end : (a b c : Option (List ℕ)) (e : FileEnd) (old here mid new : FileInlet) → Took a b old.ahead here.ahead → mid ≡ here → here.last ≡ [] → Keeps b c → new ≡ with_reading mid (done e) → KeepsAll a c old new
took_end a b c e old here mid new k same none kept is =
    let ahead : new.ahead ≡ here.ahead = ap (λ (x : FileInlet). x.ahead) is ∙ ap (λ (x : FileInlet). x.ahead) same in
    let last : new.last ≡ [] = ap (λ (x : FileInlet). x.last) is ∙ ap (λ (x : FileInlet). x.last) same ∙ none in
    (k.bytes, Consumes-kept a b c k.bytes k.lost kept, sym k.gained ∙ sym ahead ∙ ap (λ (l : List ℕ). l ++ new.ahead) (sym last))

-- ---- bytes that were read and kept nowhere

pub record Skipping (before left : Option (List ℕ)) (taken size : ℕ) : Type 0 where
  pub bytes : List ℕ
  pub lost : Consumes before left bytes
  pub count : size ≡ taken + length bytes

pub skipping_none : (a : Option (List ℕ)) (taken : ℕ) → Skipping a a taken taken
skipping_none a taken = record { bytes = []; lost = Consumes-nil a; count = omega arith }

pub skipping_more : (a b c : Option (List ℕ)) (taken size n : ℕ) (bytes : List ℕ) → Skipping a b taken size → Consumes b c bytes → length bytes ≡ n → Skipping a c taken (size + n)
skipping_more a b c taken size n bytes k lost count =
    record { bytes = k.bytes ++ bytes; lost = Consumes-trans a b c k.bytes bytes k.lost lost; count = omega (arith, k.count, count, length-append k.bytes bytes) }

pub skipping_kept : (a b c : Option (List ℕ)) (taken size : ℕ) → Skipping a b taken size → Keeps b c → Skipping a c taken size
skipping_kept a b c taken size k kept = record { bytes = k.bytes; lost = Consumes-kept a b c k.bytes k.lost kept; count = k.count }

pub skipped_so : (a b : Option (List ℕ)) (taken size limit : ℕ) (result : Rest) → Skipping a b taken size → RestIs b size limit result → IsSkipped a b false taken limit result
skipped_so a b taken size limit result k is = record { bytes = k.bytes; lost = k.lost; none = λ wrong. absurd cc; is = subst (λ (n : ℕ). RestIs b n limit result) k.count is }
