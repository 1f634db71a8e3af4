use Rattle.image_verify.proofs.EndFacts.{finish_bad, finish_header}
use Rattle.image_verify.proofs.reader.Reader.finish.Goals as goal

-- the fault that showed before
pub returns-in-Bad-clause-err : goal.returns-in-Bad-clause-err
returns-in-Bad-clause-err c = λ limit bytes fed. finish_bad c.args.self limit bytes c.in-Bad.bad fed c.in-Bad.is

-- the header is short
pub returns-in-Header-clause-err : goal.returns-in-Header-clause-err
returns-in-Header-clause-err c = λ limit bytes fed. finish_header c.args.self limit bytes fed c.in-Header.is
