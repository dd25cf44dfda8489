-- The promises of import and export settle their answers and every number of the list lent for the output: two results that meet one of them on the
-- same arguments are equal. It is the promise itself that is cited, as the checker reads it from the source.
use Rattle.rules.proofs.Laws.OneAnswer as law
use Rattle.posix.proofs.import.Reads as import_reads
use Rattle.posix.proofs.import.Kinds as import_kinds
use Rattle.posix.proofs.export.Reads as export_reads
use Rattle.posix.proofs.export.Kinds as export_kinds

pub one_import : law.Settles import_kinds.ps import_kinds.r import_reads.Post (λ κs s. s.1.1.0.now)
one_import κs args a b s t = law.one_record _ a b _ _

pub one_export : law.Settles export_kinds.ps export_kinds.r export_reads.Post (λ κs s. s.1.1.0.now)
one_export κs args a b s t = law.one_record _ a b _ _
