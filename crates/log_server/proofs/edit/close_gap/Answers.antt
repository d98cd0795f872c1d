use Rattle.std.proofs.Common.{◌≡◌, ℕ, ◌-◌, List, ap, ◌∙◌, arith}
use Rattle.log_server.specs.Records.{record_length, free_record}
use Rattle.log_server.specs.Calls.{with_record}
use Rattle.geometry.proofs.Parts.{zeros_long}
use Rattle.log_server.proofs.Parts.{put_one}
use Rattle.log_server.proofs.Gaps.{gap_closed}
use Rattle.log_server.proofs.edit.close_gap.Goals as goal

pub returns : goal.returns
returns c =
    let last : ℕ = c.args.held - 1 in
    let z : c.fill.new.self ≡ free_record = zeros_long _ record_length c.fill.new.self (c.fill.ensures.after (λ y e. e)) (omega arith) in
    put_one last _ c.copy_within.new.self c.fill.new.self free_record (omega arith) z
    ∙ ap (λ (t : List ℕ). with_record t last free_record) c.copy_within.ensures.after
    ∙ gap_closed c.args.area.now c.args.i c.args.held (omega arith) (omega arith)
