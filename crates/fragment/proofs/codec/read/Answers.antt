use Rattle.fragment.proofs.Laws.{reads_back, one_form, older_slots}
use Rattle.fragment.proofs.codec.read.Goals as goal

pub returns-in_err-layout-clause-reads_back : goal.returns-in_err-layout-clause-reads_back
returns-in_err-layout-clause-reads_back c = reads_back

pub returns-in_err-layout-clause-one_form : goal.returns-in_err-layout-clause-one_form
returns-in_err-layout-clause-one_form c = one_form

pub returns-in_err-layout-clause-older : goal.returns-in_err-layout-clause-older
returns-in_err-layout-clause-older c = older_slots

pub returns-clause-reads_back : goal.returns-clause-reads_back
returns-clause-reads_back c = reads_back

pub returns-clause-one_form : goal.returns-clause-one_form
returns-clause-one_form c = one_form

pub returns-clause-older : goal.returns-clause-older
returns-clause-older c = older_slots
