-- The measure is the number of lambdas between.
use Rattle.typing.proofs.rules.+lambda_of.Given as goal

abbrev pub decreases-lambda_of : goal.decreases-lambda_of
decreases-lambda_of l = l.between
