use Rattle.std.proofs.Common.{ℕ, ◌+◌, ap, [], ◌∷◌, ◌++◌, ◌∙◌}
use Rattle.std.specs.Prelude.{codes}
use Rattle.xdf_model.specs.Sample.{size_of}
use Rattle.reply_model.specs.Lines.{line_end}
use Rattle.reply_model.specs.Request.{request_bytes, ended}
use Rattle.feed_reply.proofs.Pieces.{joined}
use Rattle.feed_reply.proofs.request.put_parts.Goals as goal

pub returns-clause-ok : goal.returns-clause-ok
unfolding request_bytes
returns-clause-ok c =
    let before = line_end ++ ended (codes "Native-Byte-Order: 1234") ++ ended (codes "Has-IEEE754-Floats: 1") ++ ended (codes "Supports-Subnormals: 1") ++ codes "Value-Size: " in
    let behind = line_end ++ ended (codes "Data-Protocol-Version: 110") ++ ended (codes "Max-Buffer-Length: 36000") ++ ended (codes "Max-Chunk-Length: 0") ++ ended [] in
    joined c.args.out.now.items (codes "LSL:streamfeed/110 ") c.args.uid.now before ((48 + size_of c.args.shape.now.format) ∷ []) behind
    c.reserve.new.self.items c.extend_from_slice.new.self.items c.extend_from_slice-2.new.self.items c.extend_from_slice-3.new.self.items c.push.new.self.items c.extend_from_slice-4.new.self.items
    c.reserve.ensures.items c.in_ok-extend_from_slice.ensures.items c.in_ok-extend_from_slice-2.ensures.items c.in_ok-extend_from_slice-3.ensures.items
    (c.in_ok-push.ensures.items ∙ ap (λ (n : ℕ). c.extend_from_slice-3.new.self.items ++ (48 + n) ∷ []) c.size_of_format.ensures) c.in_ok-extend_from_slice-4.ensures.items
