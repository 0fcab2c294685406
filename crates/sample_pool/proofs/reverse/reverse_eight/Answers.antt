use Rattle.std.proofs.Common.{ℕ, ◌∙◌, ◌+◌, ◌-◌, ◌++◌, take, drop, ap, arith, length-drop}
use Rattle.byteorder.specs.Endian.{little_bytes}
use Rattle.feed_model.specs.declared.Order.TheVariants.{Big}
use Rattle.xdf_model_laws.proofs.Bytes.{length-little_bytes}
use Rattle.sample_pool.proofs.Numbers.{number_kept, front_put}
use Rattle.sample_pool.proofs.reverse.reverse_eight.Goals as goal

pub returns-clause-front : goal.returns-clause-front
returns-clause-front c =
    let n = c.read_u64-number.result in
    front_put 8 c.args.at c.args.to.now c.write_u64.new.buf _ _ (little_bytes 8 n) c.requires.to (length-little_bytes 8 n) c.write_u64.ensures
    ∙ ap (λ (m : ℕ). take c.args.at c.args.to.now ++ little_bytes 8 m)
    (c.read_u64-number.ensures ∙ number_kept Big 8 (c.args.at + 8 - c.args.at) (drop c.args.at c.args.from.now) (omega arith) (omega (arith, length-drop c.args.at c.args.from.now, c.requires.from)))
