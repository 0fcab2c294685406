-- A repair, chunk by chunk.
use Rattle.std.proofs.Common.{◌≡◌, ℕ, zero, suc, ◌+◌, ◌-◌, ◌≤◌, false, true, List, [], ◌∷◌, ◌++◌, length, take, drop, take-append-drop, Option, Result, Ok, Err, OnOk, IfErr, is_err, refl, sym, ap, ◌∙◌, subst, append_assoc, arith}
use Rattle.std.proofs.lemmas.List.{append-nil, length-append}
use Rattle.std.proofs.Math.Seq.{take-append-add}
use Rattle.std.specs.Io.KnownBytes.{Appends, Consumes}
use Rattle.std.proofs.KnownBytes.{Appends-nil, Appends-trans, Consumes-nil, Consumes-trans}
use Rattle.byteorder.specs.Endian.{little_bytes}
use Rattle.xdf_model_laws.proofs.Bytes.{length-little_bytes}
use Rattle.rec_base.specs.Known.{AppendsFront, Loses}
use Rattle.chunk_grammar.specs.declared.chunk.Chunk.{Chunk as ChunkValue}
use Rattle.chunk_grammar.specs.Chunk.{Context, context_after, magic, tag_of, AreChunkTexts, IsChunkText}
use Rattle.xdf_model.specs.declared.types.Why.{Why}
use Rattle.xdf_model.specs.Varlen.{varlen_at}
use Rattle.chunk_grammar.specs.Standing.{Standing, whole, torn, bad, IsWhole, context_after_all, standing_at}
use Rattle.chunk_laws.proofs.MoreBytes.{at_more}
use Rattle.chunk_encoder.specs.declared.write_all.WriteFault.{WriteFault}
use Rattle.reading_model.specs.Outlook.{Answered}
use Rattle.file_model.specs.Reader.{file_kind}
use Rattle.file_reader.specs.declared.rest.Rest.{Rest}
use Rattle.file_reader.specs.declared.rest.Rest.TheVariants as rest
use Rattle.chunk_laws.proofs.Growing.{contexts_more}
use Rattle.file_model.specs.declared.next.Next.{Next}
use Rattle.file_model.specs.declared.next.Next.TheVariants.{Chunk, End, Torn, Bad, ReadFault, SizeLimit, Memory}
use Rattle.file_reader.specs.FileInlet.{FileInlet, HasStopped, IsGiven, IsSkipped, KeepsAll, Stops, Tells, got, had_ended, outlook}
use Rattle.xdf_repair.specs.declared.repaired.Repaired.{Repaired}
use Rattle.xdf_repair.specs.declared.repaired.Repaired.TheVariants as repaired
use Rattle.xdf_repair.specs.declared.turn.Turn.{Turn}
use Rattle.xdf_repair.specs.declared.turn.Turn.TheVariants.{Copy, Skip, Stop}
use Rattle.file_reader.specs.declared.passed.Passed.{Passed}
use Rattle.file_reader.specs.declared.passed.Passed.TheVariants as passed
use Rattle.file_reader.specs.AsNext.{as_next}
use Rattle.xdf_repair.specs.Repair.{IsCutOff, IsFresh, IsRepair, RepairedSo}
use Rattle.xdf_repair.specs.Copying.{Gathers, IsCopied, IsGathered, IsMet, NoneStands, turn_by}

-- the turn tells that no read failed
pub no_fault : (context : Context) (text : List ℕ) (p : Passed) (turn : Turn) → turn_by (as_next context text p) ≡ turn → (turn ≡ Stop repaired.ReadFault → ⊥) → p ≡ passed.ReadFault → ⊥
no_fault context text p turn is other fault = other (sym is ∙ ap (λ (x : Passed). turn_by (as_next context text x)) fault)

-- texts of the chunks and of one more
are_more : (ctx : Context) (cs : List ChunkValue) (c : ChunkValue) (y x : List ℕ) → AreChunkTexts ctx cs y → IsChunkText (context_after_all ctx cs) c x → AreChunkTexts ctx (cs ++ c ∷ []) (y ++ x)
are_more ctx [] c y x r t = (x, [], t, refl, ap (λ (s : List ℕ). s ++ x) r ∙ sym (append-nil x))
are_more ctx (d ∷ cs) c y x r t = (r.0, r.1 ++ x, r.2, are_more (context_after ctx d) cs c r.1 x r.3 t, ap (λ (s : List ℕ). s ++ x) r.4 ∙ append_assoc r.0 r.1 x)

-- a chunk's text has at least two bytes
pub long_text : (ctx : Context) (c : ChunkValue) (u : List ℕ) → IsChunkText ctx c u → 2 ≤ length u
long_text ctx c u text =
    omega (arith, ap length text.whole, length-append (text.len ++ little_bytes 2 (tag_of c)) text.content, length-append text.len (little_bytes 2 (tag_of c)), length-little_bytes 2 (tag_of c))

-- ---- what was written

take_whole : (xs : List ℕ) → take (length xs) xs ≡ xs
take_whole [] = refl
take_whole (x ∷ xs) = ap (λ (l : List ℕ). x ∷ l) (take_whole xs)

pub front_all : (a b : Option (List ℕ)) (xs : List ℕ) → Appends a b xs → AppendsFront a b xs
front_all a b xs all = let P : List ℕ → Type 0 = λ t. Appends a b t in (length xs, subst P (sym (take_whole xs)) all)

-- all of one text, and a front of the next
pub front_behind : (a b c : Option (List ℕ)) (xs ys : List ℕ) → Appends a b xs → AppendsFront b c ys → AppendsFront a c (xs ++ ys)
front_behind a b c xs ys first second =
    let P : List ℕ → Type 0 = λ t. Appends a c t in
    (length xs + second.0, subst P (sym (take-append-add xs ys second.0)) (Appends-trans a b c _ _ first second.1))

pub front_failed : {T : Type 0} (a b : Option (List ℕ)) (bytes : List ℕ) (r : Result T WriteFault) → true ≡ is_err r → IfErr r (λ fault. Appends a b (take fault.went bytes)) → AppendsFront a b bytes
front_failed a b bytes (Ok x) e h = absurd cc
front_failed a b bytes (Err x) e h = (x.went, h)

pub went_well : {T E P : Type 0} (r : Result T E) → false ≡ is_err r → OnOk r P → P
went_well (Ok x) e h = h
went_well (Err x) e h = absurd cc

-- ---- what waits

-- a write of bytes within the room
pub gathers_put : (a : Option (List ℕ)) (bytes waiting : List ℕ) → waiting ≡ bytes → Gathers a a bytes waiting
gathers_put a bytes waiting is = record { went = []; all = sym is; written = Appends-nil a }

-- what waited was written, and the bytes wait
pub gathers_flush : (a b : Option (List ℕ)) (old bytes waiting : List ℕ) → Appends a b old → waiting ≡ bytes → Gathers a b (old ++ bytes) waiting
gathers_flush a b old bytes waiting all is = record { went = old; all = ap (λ (l : List ℕ). old ++ l) (sym is); written = all }

-- both were written
pub gathers_all : (a b c : Option (List ℕ)) (old bytes waiting : List ℕ) → Appends a b old → Appends b c bytes → waiting ≡ [] → Gathers a c (old ++ bytes) waiting
gathers_all a b c old bytes waiting first second none = record {
  went = old ++ bytes;
  all = sym (append-nil (old ++ bytes)) ∙ ap (λ (l : List ℕ). (old ++ bytes) ++ l) (sym none);
  written = Appends-trans a b c old bytes first second;
}

-- what waited was not written, or not whole
front_take : (n : ℕ) (xs ys : List ℕ) → take (length (take n xs)) (xs ++ ys) ≡ take n xs
front_take zero xs ys = refl
front_take (suc n) [] ys = refl
front_take (suc n) (x ∷ xs) ys = ap (λ (l : List ℕ). x ∷ l) (front_take n xs ys)

pub front_less : (a b : Option (List ℕ)) (old bytes : List ℕ) → AppendsFront a b old → AppendsFront a b (old ++ bytes)
front_less a b old bytes some =
    let P : List ℕ → Type 0 = λ t. Appends a b t in (length (take some.0 old), subst P (sym (front_take some.0 old bytes)) some.1)

-- ---- the magic

pub gathered_magic : (a held : Option (List ℕ)) (now : FileInlet) (skipped : Option Rest) (waiting : List ℕ) → IsFresh now skipped → waiting ≡ magic → IsGathered a a held held now 0 4 waiting
gathered_magic a held now skipped waiting f is = record {
  met = record {
    taken = [];
    lost = Consumes-nil a;
    cs = [];
    text = [];
    texts = refl;
    whole = sym f.3;
    context = f.1;
    place = f.2;
    chunk_count = refl;
    byte_count = sym f.2;
    few = omega arith;
  };
  went = [];
  all = sym is;
  written = Appends-nil held;
}

-- ---- an answer of the reader

module _ (a b c : Option (List ℕ)) (now new : FileInlet) (chunks bytes : ℕ) (k : IsMet a b now chunks bytes) (kept : KeepsAll b c now new) where
  -- what was taken is the text, the chunk that was passed, if one was, and what is held behind it
  parts : k.taken ++ kept.0 ≡ (k.text ++ new.last) ++ new.ahead
  parts =
      ap (λ (l : List ℕ). l ++ kept.0) k.whole ∙ append_assoc k.text now.ahead kept.0
      ∙ ap (λ (l : List ℕ). k.text ++ l) kept.2 ∙ sym (append_assoc k.text new.last new.ahead)

  lost_more : Consumes a c (k.taken ++ kept.0)
  lost_more = Consumes-trans a b c k.taken kept.0 k.lost kept.1

  -- ---- a chunk

  given_more : (next : Next) → turn_by next ≡ Copy → IsGiven now new next → (at : ℕ) × (chunk : ChunkValue) × (next ≡ Chunk at chunk) × IsGiven now new (Chunk at chunk)
  given_more (Chunk at chunk) t g = (at, chunk, refl, g)
  given_more (End at) t g = absurd cc
  given_more (Torn at left) t g = absurd cc
  given_more (Bad at why) t g = absurd cc
  given_more ReadFault t g = absurd cc
  given_more SizeLimit t g = absurd cc
  given_more Memory t g = absurd cc

  met_more : (next : Next) → turn_by next ≡ Copy → IsGiven now new next → (m : IsMet a c new (chunks + 1) (bytes + length new.last)) × (m.text ≡ k.text ++ new.last)
  met_more next turn given =
      let found = given_more next turn given in
      let is = found.3 in
      let long = long_text now.context found.1 new.last is.1 in (
        record {
          taken = k.taken ++ kept.0;
          lost = lost_more;
          cs = k.cs ++ found.1 ∷ [];
          text = k.text ++ new.last;
          texts = are_more [] k.cs found.1 k.text new.last k.texts (subst (λ (x : Context). IsChunkText x found.1 new.last) k.context is.1);
          whole = parts;
          context = is.4 ∙ ap (λ (x : Context). context_after x found.1) k.context ∙ sym (contexts_more [] k.cs found.1);
          place = omega (arith, is.2, k.place, length-append k.text new.last);
          chunk_count = omega (arith, k.chunk_count, length-append k.cs (found.1 ∷ []));
          byte_count = omega (arith, k.byte_count, is.2);
          few = omega (arith, k.few, is.2, long);
        },
        refl,
      )

  -- ---- an end

  met_same : (new.last ≡ []) × (new.place ≡ now.place) × (new.context ≡ now.context) → (m : IsMet a c new chunks bytes) × (m.text ≡ k.text)
  met_same given = (
    record {
      taken = k.taken ++ kept.0;
      lost = lost_more;
      cs = k.cs;
      text = k.text;
      texts = k.texts;
      whole = parts ∙ ap (λ (l : List ℕ). (k.text ++ l) ++ new.ahead) given.0 ∙ ap (λ (l : List ℕ). l ++ new.ahead) (append-nil k.text);
      context = given.2 ∙ k.context;
      place = given.1 ∙ k.place;
      chunk_count = k.chunk_count;
      byte_count = k.byte_count ∙ sym given.1;
      few = omega (arith, k.few, given.1);
    },
    refl,
  )

  met_end : (next : Next) → turn_by next ≡ Skip → IsGiven now new next → (m : IsMet a c new chunks bytes) × (m.text ≡ k.text)
  met_end (Chunk at chunk) t g = absurd cc
  met_end (End at) t g = met_same g
  met_end (Torn at left) t g = met_same g
  met_end (Bad at why) t g = met_same g
  met_end ReadFault t g = absurd cc
  met_end SizeLimit t g = absurd cc
  met_end Memory t g = absurd cc

  met_stop : (next : Next) (fault : Repaired) → turn_by next ≡ Stop fault → IsGiven now new next → (m : IsMet a c new chunks bytes) × (m.text ≡ k.text)
  met_stop (Chunk at chunk) fault t g = absurd cc
  met_stop (End at) fault t g = met_same g
  met_stop (Torn at left) fault t g = met_same g
  met_stop (Bad at why) fault t g = met_same g
  met_stop ReadFault fault t g = met_same g
  met_stop SizeLimit fault t g = met_same g
  met_stop Memory fault t g = met_same g

-- ---- the same with what waits

module _ (a b c held held' : Option (List ℕ)) (now new : FileInlet) (chunks bytes : ℕ) (waiting : List ℕ) (k : IsGathered a b held held' now chunks bytes waiting) (kept : KeepsAll b c now new) (next : Next) (given : IsGiven now new next) where
  pub gathered_more : (held'' : Option (List ℕ)) (text more : List ℕ) → turn_by next ≡ Copy → text ≡ new.last → Gathers held' held'' (waiting ++ text) more → IsGathered a c held held'' new (chunks + 1) (bytes + length text) more
  gathered_more held'' text more turn same g =
      let m = met_more a b c now new chunks bytes k.met kept next turn given in
      let Q : List ℕ → Type 0 = λ t. IsGathered a c held held'' new (chunks + 1) (bytes + length t) more in
      subst Q (sym same) (record {
        met = m.0;
        went = k.went ++ g.went;
        all =
            ap (λ (l : List ℕ). magic ++ l) m.1 ∙ sym (append_assoc magic k.met.text new.last) ∙ ap (λ (l : List ℕ). l ++ new.last) k.all
            ∙ append_assoc k.went waiting new.last ∙ ap (λ (l : List ℕ). k.went ++ (waiting ++ l)) (sym same)
            ∙ ap (λ (l : List ℕ). k.went ++ l) g.all ∙ sym (append_assoc k.went g.went more);
        written = Appends-trans held held' held'' k.went g.went k.written g.written;
      })

  -- a write failed
  pub cut_chunk : (held'' : Option (List ℕ)) (text : List ℕ) → turn_by next ≡ Copy → text ≡ new.last → AppendsFront held' held'' (waiting ++ text) → IsCutOff a c held held''
  cut_chunk held'' text turn same some =
      let m = met_more a b c now new chunks bytes k.met kept next turn given in
      let P : List ℕ → Type 0 = λ t. AppendsFront held held'' t in
      let is : k.went ++ (waiting ++ text) ≡ magic ++ m.0.text =
      ap (λ (l : List ℕ). k.went ++ (waiting ++ l)) same ∙ sym (append_assoc k.went waiting new.last) ∙ ap (λ (l : List ℕ). l ++ new.last) (sym k.all)
      ∙ append_assoc magic k.met.text new.last ∙ ap (λ (l : List ℕ). magic ++ l) (sym m.1) in
      record {
        taken = m.0.taken;
        lost = m.0.lost;
        cs = m.0.cs;
        text = m.0.text;
        chunks = m.0.texts;
        rest = new.ahead;
        whole = m.0.whole;
        written = subst P is (front_behind held held' held'' k.went (waiting ++ text) k.written some);
      }

  pub gathered_end : turn_by next ≡ Skip → IsGathered a c held held' new chunks bytes waiting
  gathered_end turn =
      let m = met_end a b c now new chunks bytes k.met kept next turn given in
      record { met = m.0; went = k.went; all = ap (λ (l : List ℕ). magic ++ l) m.1 ∙ k.all; written = k.written }

  pub gathered_stop : (fault : Repaired) → turn_by next ≡ Stop fault → IsGathered a c held held' new chunks bytes waiting
  gathered_stop fault turn =
      let m = met_stop a b c now new chunks bytes k.met kept next fault turn given in
      record { met = m.0; went = k.went; all = ap (λ (l : List ℕ). magic ++ l) m.1 ∙ k.all; written = k.written }

-- ---- what waited is written

module _ (a b held held' : Option (List ℕ)) (now : FileInlet) (chunks bytes : ℕ) (waiting : List ℕ) (k : IsGathered a b held held' now chunks bytes waiting) (held'' : Option (List ℕ)) where
  pub copied_all : Appends held' held'' waiting → IsCopied a b held held'' now chunks bytes
  copied_all more =
      let P : List ℕ → Type 0 = λ t. Appends held held'' t in
      record { met = k.met; written = subst P (sym k.all) (Appends-trans held held' held'' k.went waiting k.written more) }

  pub cut_waiting : AppendsFront held' held'' waiting → IsCutOff a b held held''
  cut_waiting some =
      let P : List ℕ → Type 0 = λ t. AppendsFront held held'' t in
      record {
        taken = k.met.taken;
        lost = k.met.lost;
        cs = k.met.cs;
        text = k.met.text;
        chunks = k.met.texts;
        rest = now.ahead;
        whole = k.met.whole;
        written = subst P (sym k.all) (front_behind held held' held'' k.went waiting k.written some);
      }

-- ---- what stands behind the chunks

torn_is_none : (x : Standing) → x ≡ torn → IsWhole x → ⊥
torn_is_none (whole c used) e w = absurd cc
torn_is_none torn e w = w
torn_is_none (bad n why) e w = w

bad_is_none : (x : Standing) (n : ℕ) (why : Why) → x ≡ bad n why → IsWhole x → ⊥
bad_is_none (whole c used) n why e w = absurd cc
bad_is_none torn n why e w = w
bad_is_none (bad m reason) n why e w = w

at_empty : (ctx : Context) → standing_at ctx [] ≡ torn
unfolding standing_at varlen_at
at_empty ctx = refl

ended_none : (x : FileInlet) (more : List ℕ) → standing_at x.context x.ahead ≡ torn → more ≡ [] → IsWhole (standing_at x.context (x.ahead ++ more)) → ⊥
ended_none x more here none =
    torn_is_none (standing_at x.context (x.ahead ++ more)) (ap (λ (l : List ℕ). standing_at x.context (x.ahead ++ l)) none ∙ ap (standing_at x.context) (append-nil x.ahead) ∙ here)

pub none_stands : (x : FileInlet) (next : Next) → turn_by next ≡ Skip → Tells x next → NoneStands x
none_stands x (Chunk at chunk) t h = absurd cc
none_stands x (End at) t h = λ more none. ended_none x more (ap (standing_at x.context) h.2 ∙ at_empty x.context) (none (ap had_ended h.0))
none_stands x (Torn at left) t h = λ more none. ended_none x more h.3 (none (ap had_ended h.0))
none_stands x (Bad at why) t h = λ more none.
    let n = x.byte_limit - x.place in
    let front : standing_at x.context (take n x.ahead) ≡ bad h.1 why = h.3 in
    let all : standing_at x.context (take n x.ahead ++ (drop n x.ahead ++ more)) ≡ standing_at x.context (take n x.ahead) = at_more x.context (take n x.ahead) (drop n x.ahead ++ more) (λ e. let wrong : bad h.1 why ≡ torn = sym front ∙ e in cc) in
    let same : take n x.ahead ++ (drop n x.ahead ++ more) ≡ x.ahead ++ more = sym (append_assoc (take n x.ahead) (drop n x.ahead) more) ∙ ap (λ (l : List ℕ). l ++ more) (take-append-drop n x.ahead) in
    bad_is_none (standing_at x.context (x.ahead ++ more)) h.1 why (ap (standing_at x.context) (sym same) ∙ all ∙ front)
none_stands x ReadFault t h = absurd cc
none_stands x SizeLimit t h = absurd cc
none_stands x Memory t h = absurd cc

pub has_stopped : (left : Option (List ℕ)) (x : FileInlet) (next : Next) → turn_by next ≡ Skip → Stops left x next → HasStopped left x x.reading
has_stopped left x (Chunk at chunk) t h = absurd cc
has_stopped left x (End at) t h = h
has_stopped left x (Torn at n) t h = h
has_stopped left x (Bad at why) t h = h
has_stopped left x ReadFault t h = absurd cc
has_stopped left x SizeLimit t h = absurd cc
has_stopped left x Memory t h = absurd cc

pub goes_more : (old new : FileInlet) (b c : Option (List ℕ)) (next : Next) → turn_by next ≡ Copy → Answered file_kind (outlook old) (outlook new) b c (got next) → (outlook new).is_over ≡ false
goes_more old new b c (Chunk at chunk) t h = h.gives.0
goes_more old new b c (End at) t h = absurd cc
goes_more old new b c (Torn at left) t h = absurd cc
goes_more old new b c (Bad at why) t h = absurd cc
goes_more old new b c ReadFault t h = absurd cc
goes_more old new b c SizeLimit t h = absurd cc
goes_more old new b c Memory t h = absurd cc

-- ---- answers

module _ (a b held held' : Option (List ℕ)) (now : FileInlet) (chunks bytes : ℕ) (k : IsCopied a b held held' now chunks bytes) where
  pub cut_copied : IsCutOff a b held held'
  cut_copied = record {
    taken = k.met.taken;
    lost = k.met.lost;
    cs = k.met.cs;
    text = k.met.text;
    chunks = k.met.texts;
    rest = now.ahead;
    whole = k.met.whole;
    written = front_all held held' (magic ++ k.met.text) k.written;
  }

  pub size_copied : length (magic ++ k.met.taken) ≡ now.place + length now.ahead
  size_copied = omega (arith, ap length k.met.whole, length-append k.met.text now.ahead, k.met.place)

  pub stop_so : (next : Next) (fault : Repaired) (limit : ℕ) → turn_by next ≡ Stop fault → now.byte_limit ≡ limit → Tells now next → RepairedSo a b held held' limit fault
  unfolding cut_copied
  stop_so (Chunk at chunk) fault limit t same h = absurd cc
  stop_so (End at) fault limit t same h = absurd cc
  stop_so (Torn at left) fault limit t same h = absurd cc
  stop_so (Bad at why) fault limit t same h = absurd cc
  stop_so ReadFault fault limit t same h =
      let is : repaired.ReadFault ≡ fault = cc in
      subst (λ (f : Repaired). RepairedSo a b held held' limit f) is (cut_copied, omega (arith, size_copied, same, h))
  stop_so SizeLimit fault limit t same h =
      let is : repaired.SizeLimit ≡ fault = cc in
      subst (λ (f : Repaired). RepairedSo a b held held' limit f) is (cut_copied, omega (arith, size_copied, same, h.0))
  stop_so Memory fault limit t same h =
      let is : repaired.Memory ≡ fault = cc in
      subst (λ (f : Repaired). RepairedSo a b held held' limit f) is cut_copied

  module _ (c : Option (List ℕ)) (limit : ℕ) (same : now.byte_limit ≡ limit) where
    pub done_so : (size : ℕ) → NoneStands now → IsSkipped b c (had_ended now.reading) (now.place + length now.ahead) now.byte_limit (rest.End size) → IsRepair a c held held' limit chunks bytes (size - bytes)
    done_so size none s =
        let long = ap length k.met.whole in
        let joined = length-append k.met.text now.ahead in
        let more = length-append k.met.taken s.bytes in
        let behind = length-append now.ahead s.bytes in
        record {
          taken = k.met.taken ++ s.bytes;
          lost = Consumes-trans a b c k.met.taken s.bytes k.met.lost s.lost;
          all = s.is.2;
          within = omega (arith, s.is.1, same, long, joined, more, k.met.place);
          cs = k.met.cs;
          rest = now.ahead ++ s.bytes;
          front = record {
            text = k.met.text;
            chunks = k.met.texts;
            whole = ap (λ (l : List ℕ). magic ++ l) (ap (λ (l : List ℕ). l ++ s.bytes) k.met.whole ∙ append_assoc k.met.text now.ahead s.bytes);
            ends = λ w. none s.bytes s.none (subst (λ (x : Context). IsWhole (standing_at x (now.ahead ++ s.bytes))) (sym k.met.context) w);
          };
          written = k.written;
          chunk_count = k.met.chunk_count;
          byte_count = omega (arith, k.met.byte_count, k.met.place);
          skipped_count = omega (arith, s.is.0, k.met.byte_count, behind);
        }

    cut_more : (s : List ℕ) → Consumes b c s → IsCutOff a c held held'
    cut_more s lost = record {
      taken = k.met.taken ++ s;
      lost = Consumes-trans a b c k.met.taken s k.met.lost lost;
      cs = k.met.cs;
      text = k.met.text;
      chunks = k.met.texts;
      rest = now.ahead ++ s;
      whole = ap (λ (l : List ℕ). l ++ s) k.met.whole ∙ append_assoc k.met.text now.ahead s;
      written = front_all held held' (magic ++ k.met.text) k.written;
    }

    pub fault_so : IsSkipped b c (had_ended now.reading) (now.place + length now.ahead) now.byte_limit rest.ReadFault → RepairedSo a c held held' limit repaired.ReadFault
    unfolding cut_more
    fault_so s = (cut_more s.bytes s.lost, omega (arith, s.is, same, size_copied, length-append k.met.taken s.bytes))

    pub limit_so : IsSkipped b c (had_ended now.reading) (now.place + length now.ahead) now.byte_limit rest.SizeLimit → RepairedSo a c held held' limit repaired.SizeLimit
    unfolding cut_more
    limit_so s = (cut_more s.bytes s.lost, omega (arith, s.is, same, size_copied, length-append k.met.taken s.bytes))

pub repaired_loses : (a c held held' : Option (List ℕ)) (limit : ℕ) (r : Repaired) → RepairedSo a c held held' limit r → Loses a c
repaired_loses a c held held' limit (repaired.Done chunks bytes skipped) h = (h.taken, h.lost)
repaired_loses a c held held' limit repaired.ReadFault h = (h.0.taken, h.0.lost)
repaired_loses a c held held' limit repaired.SizeLimit h = (h.0.taken, h.0.lost)
repaired_loses a c held held' limit repaired.WriteFault h = (h.taken, h.lost)
repaired_loses a c held held' limit repaired.Memory h = (h.taken, h.lost)
