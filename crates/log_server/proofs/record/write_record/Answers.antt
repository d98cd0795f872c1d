use Rattle.std.proofs.Common.{ℕ, List, ◌++◌, ap, ◌∙◌, arith}
use Rattle.log_server.specs.Records.{lead}
use Rattle.geometry.proofs.Parts.{put_two}
use Rattle.log_server.proofs.record.write_record.Goals as goal

pub returns : goal.returns
returns c =
    put_two 8 512 c.args.bytes.now c.copy_from_slice.new.self c.copy_from_slice-2.new.self c.requires (omega arith) (omega arith)
    ∙ ap (λ (t : List ℕ). t ++ c.copy_from_slice-2.new.self) (c.copy_from_slice.ensures.after ∙ c.lead-front.ensures)
    ∙ ap (λ (t : List ℕ). lead c.args.key.client c.args.key.stripe ++ t) c.copy_from_slice-2.ensures.after
