use Rattle.std.proofs.lemmas.Bool.{false≢true}
use Rattle.toml.specs.View.{table_view}
use Rattle.pcm_config.proofs.Documents.{document-is, document-none}
use Rattle.pcm_config.proofs.reader.document_of.Goals as goal

pub returns-in-Ok : goal.returns-in-Ok
returns-in-Ok c = rw (document-is c.args.bytes.now (table_view c.in-Ok.table) c.in-Ok.ensures.ok.0 c.in-Ok.ensures.ok.1)

pub returns-else-is_memory : goal.returns-else-is_memory
returns-else-is_memory c =
    let none = document-none c.args.bytes.now (c.in-Err.ensures.refused (λ m. false≢true (c.if-is_memory.ensures.1 m))) in
    rw (c.refused.ensures, none)
